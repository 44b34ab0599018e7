-- `line_search::locate_when_all_vertices_on_line` meets its contract. Assumes nothing.
use mathlib.Core.Path.{◌∙◌}
use borrow.Author.Rules.{sfits_of}
use mir.Facts.{to_z-of_z}
use Rattle.line_search.specs.OnLine.{first-there, first_back, from-there, to-there, first_range, off-left, off-right, on_line}
use mir.Syntax.{w64}
use Rattle.line_search.proofs.locate_when_all_vertices_on_line.Goals as goal

pub origin-u-requires : goal.origin-u-requires
origin-u-requires c = first-there c.requires

pub position-from-requires : goal.position-from-requires
position-from-requires c =
    from-there c.requires c.origin-u.ensures

pub to-w-requires : goal.to-w-requires
to-w-requires c = first_back c.requires

pub position-to-requires : goal.position-to-requires
position-to-requires c =
    to-there c.requires c.origin-u.ensures c.position-from.ensures c.to-w.ensures

pub side_query-area-requires : goal.side_query-area-requires
side_query-area-requires c =
    first_range c.requires c.origin-u.ensures c.position-from.ensures c.to-w.ensures c.position-to.ensures

pub returns-then-area-gt0 : goal.returns-then-area-gt0
returns-then-area-gt0 c =
    off-left c.requires c.origin-u.ensures c.position-from.ensures c.to-w.ensures c.position-to.ensures
    (to_z-of_z {w = w64} (sfits_of c.side_query-area.type_inv) ∙ c.side_query-area.ensures) c.if-area-gt0.true

pub returns-then-area-lt0 : goal.returns-then-area-lt0
returns-then-area-lt0 c =
    off-right c.requires c.origin-u.ensures c.position-from.ensures c.to-w.ensures c.position-to.ensures
    (to_z-of_z {w = w64} (sfits_of c.side_query-area.type_inv) ∙ c.side_query-area.ensures) c.if-area-gt0.false c.if-area-lt0.true

pub returns : goal.returns
returns c =
    on_line c.requires c.origin-u.ensures c.position-from.ensures c.to-w.ensures c.position-to.ensures
    (to_z-of_z {w = w64} (sfits_of c.side_query-area.type_inv) ∙ c.side_query-area.ensures) c.if-area-gt0.false c.if-area-lt0.false
    c.locate_on_line.ensures
