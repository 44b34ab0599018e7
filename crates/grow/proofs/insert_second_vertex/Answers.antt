-- `grow::insert_second_vertex` meets its contract, where the point is and where it is not at the first vertex. Assumes nothing.
use Rattle.grow.specs.FirstPoints.{second-same, second-grown}
use borrow.Author.Rules.{rules}
use Rattle.grow.proofs.insert_second_vertex.Goals as goal

pub returns-then-is_position : goal.returns-then-is_position
returns-then-is_position c =
    second-same _ _ _ _ _ c.position-first.ensures c.is_position.ensures c.if-is_position.true c.unflipped_by.ensures

pub returns : goal.returns
returns c =
    second-grown _ _ _ _ _ c.position-first.ensures c.is_position.ensures c.if-is_position.false _ _ _ _
    c.set_position.ensures c.setup_initial_two_vertices.ensures c.unflipped_by-2.ensures
