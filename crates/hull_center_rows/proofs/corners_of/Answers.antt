-- `hull_center_rows::corners_of` meets its contract. Assumes nothing.
use Rattle.hull_center_rows.specs.Holding.{second-there, second-placed, third-there, third-placed, corners-are}
use Rattle.hull_center_rows.proofs.corners_of.Goals as goal

pub next-c-requires : goal.next-c-requires
next-c-requires c = second-there c.requires c.next-b.ensures

pub origin-requires-2 : goal.origin-requires-2
origin-requires-2 c =
    second-there c.requires c.next-b.ensures

pub origin-requires-3 : goal.origin-requires-3
origin-requires-3 c =
    third-there c.requires c.next-b.ensures c.next-c.ensures

pub position-requires-2 : goal.position-requires-2
position-requires-2 c =
    second-placed c.requires c.next-b.ensures c.origin-2.ensures

pub position-requires-3 : goal.position-requires-3
position-requires-3 c =
    third-placed c.requires c.next-b.ensures c.next-c.ensures c.origin-3.ensures

pub returns : goal.returns
returns c =
    corners-are c.requires c.next-b.ensures c.next-c.ensures c.origin.ensures c.origin-2.ensures
    c.origin-3.ensures
    c.position.ensures c.position-2.ensures c.position-3.ensures
