-- `grow::grow_in_mesh` meets its contract. Assumes nothing.
use Rattle.grow.specs.GrowRowsLaws.{mesh-grown}
use borrow.Author.Rules.{rules}
use Rattle.grow.proofs.grow_in_mesh.Goals as goal

pub returns : goal.returns
returns c =
    mesh-grown _ _ _ _ _ _ _ _ _ _ _ c.insert_point-done.ensures c.inserted_by.ensures
