-- The loop of `ring_rows::walk_both`.
use Rattle.ring_rows.proofs.WalkBoth.{Walking}
use Rattle.ring_rows.proofs.walk_both.Given as goal

abbrev pub invariant-loop : goal.invariant-loop
invariant-loop l = Walking l.nodes l.angle l.initial.right l.initial.left l.right l.left l.counter
