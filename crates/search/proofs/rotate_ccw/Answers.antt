-- `search::rotate_ccw` meets its contract. Assumes nothing.
use mathlib.Core.Path.{◌∙◌}
use borrow.Author.Rules.{sfits_of}
use mir.Facts.{to_z-of_z}
use Rattle.search.specs.Turns.{here-there, prev-there, far-there, far-range, next-back-there, ends-range, ccw-outer, ccw-on, ccw-across}
use mir.Syntax.{w64}
use Rattle.search.proofs.rotate_ccw.Goals as goal

pub face-face-requires : goal.face-face-requires
face-face-requires c = here-there c.requires.turn

pub returns-then-face-eq0 : goal.returns-then-face-eq0
returns-then-face-eq0 c =
    ccw-outer c.requires c.face-face.ensures c.if-face-eq0.true

pub prev-prev-requires : goal.prev-prev-requires
prev-prev-requires c =
    here-there c.requires.turn

pub origin-v-requires : goal.origin-v-requires
origin-v-requires c =
    prev-there c.requires.turn c.face-face.ensures c.if-face-eq0.false c.prev-prev.ensures

pub position-far-requires : goal.position-far-requires
position-far-requires c =
    far-there c.requires.turn c.face-face.ensures c.if-face-eq0.false c.prev-prev.ensures c.origin-v.ensures

pub side_query-requires : goal.side_query-requires
side_query-requires c = (
  (ends-range c.requires).0,
  far-range c.requires.turn c.face-face.ensures c.if-face-eq0.false c.prev-prev.ensures c.origin-v.ensures
      c.position-far.ensures,
  (ends-range c.requires).2,
)

pub returns-then-side_query-ge0 : goal.returns-then-side_query-ge0
returns-then-side_query-ge0 c =
    ccw-on c.requires c.face-face.ensures c.if-face-eq0.false c.prev-prev.ensures c.origin-v.ensures
    c.position-far.ensures (to_z-of_z {w = w64} (sfits_of c.side_query.type_inv) ∙ c.side_query.ensures)
    c.if-side_query-ge0.true c.rev.ensures

pub next-e2-requires : goal.next-e2-requires
next-e2-requires c =
    here-there c.requires.turn

pub side_query-area-requires : goal.side_query-area-requires
side_query-area-requires c = (
  (ends-range c.requires).1,
  far-range c.requires.turn c.face-face.ensures c.if-face-eq0.false c.prev-prev.ensures c.origin-v.ensures
      c.position-far.ensures,
  (ends-range c.requires).2,
)

pub across_edge-requires : goal.across_edge-requires
across_edge-requires c =
    next-back-there c.requires.turn c.next-e2.ensures

pub returns : goal.returns
returns c =
    ccw-across c.requires c.face-face.ensures c.if-face-eq0.false c.prev-prev.ensures c.origin-v.ensures
    c.position-far.ensures (to_z-of_z {w = w64} (sfits_of c.side_query.type_inv) ∙ c.side_query.ensures)
    c.if-side_query-ge0.false c.next-e2.ensures (to_z-of_z {w = w64} (sfits_of c.side_query-area.type_inv) ∙ c.side_query-area.ensures) c.across_edge.ensures
