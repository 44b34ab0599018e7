-- `step::add_point` meets its contract. Assumes nothing.
use borrow.Author.Rules.{rules}
use Rattle.step.proofs.PointRows.{point-added}
use Rattle.step.proofs.add_point.Goals as goal

pub add_vertex-requires : goal.add_vertex-requires
add_vertex-requires c = c.requires.add _ c.set_position.auto.positions c.set_position.ensures

pub returns : goal.returns
returns c = point-added _ _ _ _ _ _ _ _ _ _ _ _ _ c.set_position.ensures c.add_vertex.ensures
