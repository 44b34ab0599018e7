-- The loop of `settled_test::is_settled`.
use Prim.Native.Nat.{◌-◌}
use Rattle.circle_scan.specs.Scan.{Unbroken}
use Rattle.settled_test.proofs.is_settled.Given as goal

abbrev pub invariant-loop-u : goal.invariant-loop-u
invariant-loop-u l = Unbroken l.positions l.halves 0 l.counts.edges l.u

abbrev pub decreases-loop-u : goal.decreases-loop-u
decreases-loop-u l = l.counts.edges - l.u
