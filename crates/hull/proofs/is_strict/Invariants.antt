-- The loop of `hull::is_strict`.
use Rattle.hull.proofs.Around.{Counting}
use Rattle.hull.proofs.is_strict.Given as goal

abbrev pub invariant-loop : goal.invariant-loop
invariant-loop l = Counting l.positions l.halves l.center.x l.center.y l.start l.size l.e l.from l.wraps l.wides l.equals l.counter
