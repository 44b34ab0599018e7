-- `insert::insert_at` meets its contract, at each kind of place. Assumes nothing.
use borrow.Author.Rules.{rules}
use Rattle.insert.proofs.AtRows.{at-vertex, at-face, face-leaves, at_edge, edge-leaves, at-outside, outside-leaves}
use Rattle.insert.proofs.insert_at.Goals as goal

pub insert_into_face-requires : goal.insert_into_face-requires
insert_into_face-requires c = at-face c.requires _ c.set_position.auto.positions c.set_position.ensures c.in-OnFace.is

pub insert_on_edge-requires : goal.insert_on_edge-requires
insert_on_edge-requires c = at_edge c.requires _ c.set_position-in-OnEdge.auto.positions c.set_position-in-OnEdge.ensures c.in-OnEdge.is

pub insert_outside-requires : goal.insert_outside-requires
insert_outside-requires c = at-outside c.requires _ c.set_position-in-OutsideOfConvexHull.auto.positions c.set_position-in-OutsideOfConvexHull.ensures c.in-OutsideOfConvexHull.is

pub returns-in-OnVertex : goal.returns-in-OnVertex
returns-in-OnVertex c = at-vertex c.requires c.in-OnVertex.is

pub returns-in-OnFace : goal.returns-in-OnFace
returns-in-OnFace c = face-leaves c.requires _ c.set_position.auto.positions c.set_position.ensures c.in-OnFace.is _ c.insert_into_face.ensures

pub returns-in-OnEdge : goal.returns-in-OnEdge
returns-in-OnEdge c = edge-leaves c.requires _ c.set_position-in-OnEdge.auto.positions c.set_position-in-OnEdge.ensures c.in-OnEdge.is _ c.insert_on_edge.ensures

pub returns-in-OutsideOfConvexHull : goal.returns-in-OutsideOfConvexHull
returns-in-OutsideOfConvexHull c = outside-leaves c.requires _ c.set_position-in-OutsideOfConvexHull.auto.positions c.set_position-in-OutsideOfConvexHull.ensures c.in-OutsideOfConvexHull.is _ c.insert_outside.ensures
