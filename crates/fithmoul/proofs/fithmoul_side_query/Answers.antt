-- `fithmoul::fithmoul_side_query` meets its contract. Assumes nothing.
use mathlib.Core.Path.{◌∙◌, ap}
use mir.Facts.{to_z-of_z}
use Rattle.fithmoul.specs.Results.{side_query_result}
use borrow.Author.Rules.{rules}
use Rattle.fithmoul.proofs.fithmoul_side_query.Goals as goal

pub returns : goal.returns
returns c =
    let f = c.ranges in
    let e = c.side_query.ensures in
    c.from.ensures
    ∙ ap side_query_result
    (rw (to_z-of_z f.p1x, to_z-of_z f.p1y, to_z-of_z f.p2x, to_z-of_z f.p2y, to_z-of_z f.qx, to_z-of_z f.qy) at e)
