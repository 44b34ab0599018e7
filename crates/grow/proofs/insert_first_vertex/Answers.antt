-- `grow::insert_first_vertex` meets its contract. Assumes nothing.
use Rattle.grow.specs.FirstPoints.{first-grown}
use borrow.Author.Rules.{rules}
use Rattle.grow.proofs.insert_first_vertex.Goals as goal

pub returns : goal.returns
returns c =
    first-grown _ _ _ _ _ _ _ c.set_position.ensures c.store.ensures c.store-2.ensures c.unflipped_by.ensures
