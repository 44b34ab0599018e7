-- `math_c::math_contained_in_circumference` meets its contract: the points are made of the numbers.
-- Assumes nothing.
use mir.Facts.{to_z-of_z}
use borrow.Author.Rules.{rules}
use Rattle.math_c.specs.Answer.{at}
use Rattle.math_c.proofs.math_contained_in_circumference.Goals as goal

pub returns : goal.returns
returns c =
    let f = c.ranges in
    rw (to_z-of_z f.v1x, to_z-of_z f.v1y, to_z-of_z f.v2x, to_z-of_z f.v2y, to_z-of_z f.v3x, to_z-of_z f.v3y, to_z-of_z f.px, to_z-of_z f.py) at c.circle.ensures
