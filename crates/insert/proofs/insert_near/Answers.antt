-- `insert::insert_near` meets its contract. Assumes nothing.
use Rattle.insert.proofs.PointRows.{point-near}
use Rattle.insert.proofs.insert_near.Goals as goal

pub locate_near-position-requires : goal.locate_near-position-requires
locate_near-position-requires c = point-near c.requires

pub insert_located-requires : goal.insert_located-requires
insert_located-requires c = (c.requires.ready, c.locate_near-position.ensures)
