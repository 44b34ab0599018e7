-- The loop of `hull::build_nodes`.
use Rattle.hull.proofs.Numbered.{Building}
use Rattle.hull.proofs.build_nodes.Given as goal

abbrev pub invariant-loop-k : goal.invariant-loop-k
invariant-loop-k l = Building l.positions l.halves l.center.x l.center.y l.start l.size l.initial.nodes l.nodes l.e l.left l.k
