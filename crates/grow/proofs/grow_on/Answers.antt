-- `grow::grow_on` meets its contract, with a triangle and without. Assumes nothing.
use Rattle.grow.specs.GrowRowsLaws.{mesh-ready, with-triangle, without-triangle}
use borrow.Author.Rules.{rules}
use Rattle.grow.proofs.grow_on.Goals as goal

pub grow_in_mesh-requires : goal.grow_in_mesh-requires
grow_in_mesh-requires c =
    mesh-ready c.requires c.if-counts-gt1.true

pub returns-then-counts-gt1 : goal.returns-then-counts-gt1
returns-then-counts-gt1 c =
    with-triangle _ _ _ c.if-counts-gt1.true c.grow_in_mesh.ensures

pub returns : goal.returns
returns c =
    without-triangle _ _ _ c.if-counts-gt1.false c.grow_point.ensures
