-- `complete::position_vertex` meets its contract. Assumes nothing.
use Rattle.skipped.specs.Insert.{position_vertex}
use Rattle.complete.proofs.position_vertex.Goals as goal

pub returns-in-OnVertex : goal.returns-in-OnVertex
unfolding position_vertex
returns-in-OnVertex c = rw c.in-OnVertex.is

pub returns-in-OnEdge : goal.returns-in-OnEdge
unfolding position_vertex
returns-in-OnEdge c = rw c.in-OnEdge.is

pub returns-in-OnFace : goal.returns-in-OnFace
unfolding position_vertex
returns-in-OnFace c = rw c.in-OnFace.is

pub returns-in-OutsideOfConvexHull : goal.returns-in-OutsideOfConvexHull
unfolding position_vertex
returns-in-OutsideOfConvexHull c = rw c.in-OutsideOfConvexHull.is
