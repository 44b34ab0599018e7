-- The loop of `closing::close_turn`.
use Prim.Native.Nat.{◌-◌}
use Rattle.closing.proofs.Loops.{TurnAt}
use Rattle.closing.proofs.close_turn.Given as goal

abbrev pub invariant-loop-u : goal.invariant-loop-u
invariant-loop-u l = TurnAt l.counts l.positions l.initial.outs l.initial.halves l.initial.faces l.initial.made l.outs l.halves l.faces l.made l.u

abbrev pub decreases-loop-u : goal.decreases-loop-u
decreases-loop-u l = l.counts.edges - l.u
