-- `insert::insert_located` meets its contract. Assumes nothing.
use Rattle.insert.proofs.PointRows.{point-certified, point-inserted}
use Rattle.insert.proofs.insert_located.Goals as goal

pub insert_at-added-requires : goal.insert_at-added-requires
insert_at-added-requires c = point-certified c.requires.0 c.requires.1

pub returns : goal.returns
returns c = point-inserted c.requires.0 c.requires.1 _ _ _ _ c.insert_at-added.ensures
