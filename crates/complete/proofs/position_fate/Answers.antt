-- `complete::position_fate` meets its contract. Assumes nothing.
use Rattle.skipped.specs.Insert.{position_fate}
use Rattle.complete.proofs.position_fate.Goals as goal

pub returns-in-OnVertex : goal.returns-in-OnVertex
unfolding position_fate
returns-in-OnVertex c = rw c.in-OnVertex.is

pub returns-in-OnEdge : goal.returns-in-OnEdge
unfolding position_fate
returns-in-OnEdge c = rw c.in-OnEdge.is

pub returns-in-OnFace : goal.returns-in-OnFace
unfolding position_fate
returns-in-OnFace c = rw c.in-OnFace.is

pub returns-in-OutsideOfConvexHull : goal.returns-in-OutsideOfConvexHull
unfolding position_fate
returns-in-OutsideOfConvexHull c = rw c.in-OutsideOfConvexHull.is
