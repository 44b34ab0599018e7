-- The loop of `search_near::is_walkable`.
use Rattle.search_near.specs.BoundaryLoop.{Along}
use Rattle.search_near.proofs.is_walkable.Given as goal

abbrev pub invariant-loop : goal.invariant-loop
invariant-loop l = Along l.positions l.outs l.halves l.faces l.size l.e l.from l.circles l.counter
