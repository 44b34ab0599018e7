-- `search::by_side` meets its contract. Assumes nothing.
use mathlib.Core.Path.{◌≡◌, ◌∙◌}
use borrow.Author.Rules.{sfits_of}
use mir.Facts.{to_z-of_z}
use mir.Syntax.{w64}
use mir.Val.{to_z, of_z}
use Rattle.math.specs.Determinant.{orient2d}
use Rattle.search.specs.Turns.{line-ready, ends-range, side_left, side_right, side-line}
use Rattle.search.proofs.by_side.Goals as goal

pub side_query-area-requires : goal.side_query-area-requires
side_query-area-requires c = ends-range c.requires

pub returns-then-area-gt0 : goal.returns-then-area-gt0
returns-then-area-gt0 c o a =
    let area : let a = c.args in to_z w64 (of_z w64 c.side_query-area.result) ≡ orient2d a.from a.to a.point = to_z-of_z {w = w64} (sfits_of c.side_query-area.type_inv) ∙ c.side_query-area.ensures in
    side_left c.requires (area) c.if-area-gt0.true o a (c.rotate_ccw.ensures o a)

pub returns-then-area-lt0 : goal.returns-then-area-lt0
returns-then-area-lt0 c o a =
    let area : let a = c.args in to_z w64 (of_z w64 c.side_query-area.result) ≡ orient2d a.from a.to a.point = to_z-of_z {w = w64} (sfits_of c.side_query-area.type_inv) ∙ c.side_query-area.ensures in
    side_right c.requires (area) c.if-area-gt0.false c.if-area-lt0.true o a (c.rotate_cw.ensures o a)

pub on_line-requires : goal.on_line-requires
on_line-requires c =
    line-ready c.requires.turn

pub returns : goal.returns
returns c o a =
    let area : let a = c.args in to_z w64 (of_z w64 c.side_query-area.result) ≡ orient2d a.from a.to a.point = to_z-of_z {w = w64} (sfits_of c.side_query-area.type_inv) ∙ c.side_query-area.ensures in
    side-line c.requires (area) c.if-area-gt0.false c.if-area-lt0.false o a (c.on_line.ensures o a)
