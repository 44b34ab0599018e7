-- `search::rotate_cw` meets its contract. Assumes nothing.
use mathlib.Core.Path.{◌∙◌}
use borrow.Author.Rules.{sfits_of}
use mir.Facts.{to_z-of_z}
use Rattle.search.specs.Turns.{here-there, back-ready, prev-there, far-there, far-range, prev-back-there, ends-range, cw-outer, cw-on, cw-across}
use mir.Syntax.{w64}
use Rattle.search.proofs.rotate_cw.Goals as goal

pub face-face-requires : goal.face-face-requires
face-face-requires c = here-there (back-ready c.requires.turn c.rev-e1.ensures)

pub returns-then-face-eq0 : goal.returns-then-face-eq0
returns-then-face-eq0 c =
    cw-outer c.requires c.rev-e1.ensures c.face-face.ensures c.if-face-eq0.true

pub prev-e2-requires : goal.prev-e2-requires
prev-e2-requires c =
    here-there (back-ready c.requires.turn c.rev-e1.ensures)

pub origin-v-requires : goal.origin-v-requires
origin-v-requires c =
    prev-there (back-ready c.requires.turn c.rev-e1.ensures) c.face-face.ensures c.if-face-eq0.false c.prev-e2.ensures

pub position-far-requires : goal.position-far-requires
position-far-requires c =
    far-there (back-ready c.requires.turn c.rev-e1.ensures) c.face-face.ensures c.if-face-eq0.false c.prev-e2.ensures
    c.origin-v.ensures

pub side_query-requires : goal.side_query-requires
side_query-requires c = (
  (ends-range c.requires).0,
  far-range (back-ready c.requires.turn c.rev-e1.ensures) c.face-face.ensures c.if-face-eq0.false
      c.prev-e2.ensures c.origin-v.ensures c.position-far.ensures,
  (ends-range c.requires).2,
)

pub next-requires : goal.next-requires
next-requires c =
    here-there (back-ready c.requires.turn c.rev-e1.ensures)

pub returns-then-side_query-le0 : goal.returns-then-side_query-le0
returns-then-side_query-le0 c =
    cw-on c.requires c.rev-e1.ensures c.face-face.ensures c.if-face-eq0.false c.prev-e2.ensures
    c.origin-v.ensures c.position-far.ensures (to_z-of_z {w = w64} (sfits_of c.side_query.type_inv) ∙ c.side_query.ensures)
    c.if-side_query-le0.true c.next.ensures

pub side_query-area-requires : goal.side_query-area-requires
side_query-area-requires c = (
  far-range (back-ready c.requires.turn c.rev-e1.ensures) c.face-face.ensures c.if-face-eq0.false c.prev-e2.ensures c.origin-v.ensures c.position-far.ensures,
  (ends-range c.requires).1,
  (ends-range c.requires).2,
)

pub across_edge-requires : goal.across_edge-requires
across_edge-requires c =
    prev-back-there (back-ready c.requires.turn c.rev-e1.ensures) c.prev-e2.ensures

pub returns : goal.returns
returns c =
    cw-across c.requires c.rev-e1.ensures c.face-face.ensures c.if-face-eq0.false c.prev-e2.ensures c.origin-v.ensures
    c.position-far.ensures (to_z-of_z {w = w64} (sfits_of c.side_query.type_inv) ∙ c.side_query.ensures)
    c.if-side_query-le0.false (to_z-of_z {w = w64} (sfits_of c.side_query-area.type_inv) ∙ c.side_query-area.ensures) c.across_edge.ensures
