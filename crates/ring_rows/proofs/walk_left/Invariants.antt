-- The loop of `ring_rows::walk_left`.
use Rattle.ring_rows.proofs.WalkLeft.{Walking}
use Rattle.ring_rows.proofs.walk_left.Given as goal

abbrev pub invariant-loop : goal.invariant-loop
invariant-loop l = Walking l.nodes l.near l.i
