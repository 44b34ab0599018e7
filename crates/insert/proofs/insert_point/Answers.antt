-- `insert::insert_point` meets its contract. Assumes nothing.
use Rattle.insert.proofs.PointRows.{point-located}
use Rattle.insert.proofs.insert_point.Goals as goal

pub locate_point-position-requires : goal.locate_point-position-requires
locate_point-position-requires c = point-located c.requires

pub insert_located-requires : goal.insert_located-requires
insert_located-requires c = (c.requires, c.locate_point-position.ensures)
