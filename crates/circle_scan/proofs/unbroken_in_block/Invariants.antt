-- The loop of `circle_scan::unbroken_in_block`.
use Rattle.circle_scan.specs.Scan.{Unbroken}
use Rattle.circle_scan.proofs.unbroken_in_block.Given as goal

abbrev pub invariant-loop-v : goal.invariant-loop-v
invariant-loop-v l = Unbroken l.positions l.halves l.u l.end l.v
