-- The loop of `hull::meets_center`.
use Rattle.hull.proofs.Around.{Meeting}
use Rattle.hull.proofs.meets_center.Given as goal

abbrev pub invariant-loop : goal.invariant-loop
invariant-loop l = Meeting l.positions l.halves l.center.x l.center.y l.start l.size l.e l.counter
