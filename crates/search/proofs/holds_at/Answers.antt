-- `search::holds_at` meets its contract. Assumes nothing.
use mathlib.Core.Path.{◌∙◌}
use borrow.Author.Rules.{sfits_of}
use mir.Facts.{to_z-of_z}
use Rattle.search.specs.Triangles.{corners-in, p-range, q-range, r-range, holds-not-a, holds-not-b, holds-c}
use mir.Syntax.{w64}
use Rattle.search.proofs.holds_at.Goals as goal

pub corners_of-k-requires : goal.corners_of-k-requires
corners_of-k-requires c = corners-in c.requires

pub side_query-requires : goal.side_query-requires
side_query-requires c =
    (p-range c.requires c.corners_of-k.ensures, q-range c.requires c.corners_of-k.ensures, c.requires.turn.ready.range)

pub returns-then-side_query-lt0 : goal.returns-then-side_query-lt0
returns-then-side_query-lt0 c =
    holds-not-a c.requires c.corners_of-k.ensures (to_z-of_z {w = w64} (sfits_of c.side_query.type_inv) ∙ c.side_query.ensures) c.if-side_query-lt0.true

pub side_query-requires-2 : goal.side_query-requires-2
side_query-requires-2 c =
    (q-range c.requires c.corners_of-k.ensures, r-range c.requires c.corners_of-k.ensures, c.requires.turn.ready.range)

pub returns-then-side_query-lt0-2 : goal.returns-then-side_query-lt0-2
returns-then-side_query-lt0-2 c =
    holds-not-b c.requires c.corners_of-k.ensures (to_z-of_z {w = w64} (sfits_of c.side_query.type_inv) ∙ c.side_query.ensures)
    (to_z-of_z {w = w64} (sfits_of c.side_query-2.type_inv) ∙ c.side_query-2.ensures) c.if-side_query-lt0.false c.if-side_query-lt0-2.true

pub side_query-requires-3 : goal.side_query-requires-3
side_query-requires-3 c =
    (r-range c.requires c.corners_of-k.ensures, p-range c.requires c.corners_of-k.ensures, c.requires.turn.ready.range)

pub returns : goal.returns
returns c =
    holds-c c.requires c.corners_of-k.ensures (to_z-of_z {w = w64} (sfits_of c.side_query.type_inv) ∙ c.side_query.ensures)
    (to_z-of_z {w = w64} (sfits_of c.side_query-2.type_inv) ∙ c.side_query-2.ensures) c.if-side_query-lt0.false
    (to_z-of_z {w = w64} (sfits_of c.side_query-3.type_inv) ∙ c.side_query-3.ensures) c.if-side_query-lt0-2.false
