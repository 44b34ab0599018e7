-- `search::place_at` meets its contract. Assumes nothing.
use borrow.Author.Rules.{sfits_of}
use Rattle.search.specs.Triangles.{corners-in, p-range, q-range, r-range, place-u, place-v, place-w, place-a, place-b, place-c, place-face}
use Rattle.search.proofs.place_at.Goals as goal

pub corners_of-k-requires : goal.corners_of-k-requires
corners_of-k-requires c = corners-in c.requires

pub returns-then-is_position : goal.returns-then-is_position
returns-then-is_position c =
    place-u c.requires c.corners_of-k.ensures c.is_position.ensures c.if-is_position.true

pub returns-then-is_position-2 : goal.returns-then-is_position-2
returns-then-is_position-2 c =
    place-v c.requires c.corners_of-k.ensures c.is_position.ensures c.if-is_position.false
    c.is_position-2.ensures c.if-is_position-2.true

pub returns-then-is_position-3 : goal.returns-then-is_position-3
returns-then-is_position-3 c =
    place-w c.requires c.corners_of-k.ensures c.is_position.ensures c.if-is_position.false
    c.is_position-2.ensures c.if-is_position-2.false
    c.is_position-3.ensures c.if-is_position-3.true

pub side_query-requires : goal.side_query-requires
side_query-requires c =
    (p-range c.requires c.corners_of-k.ensures, q-range c.requires c.corners_of-k.ensures, c.requires.turn.ready.range)

pub returns-then-side_query-eq0 : goal.returns-then-side_query-eq0
returns-then-side_query-eq0 c =
    place-a c.requires c.corners_of-k.ensures c.is_position.ensures c.if-is_position.false
    c.is_position-2.ensures c.if-is_position-2.false
    c.is_position-3.ensures c.if-is_position-3.false c.side_query.ensures (sfits_of c.side_query.type_inv) c.if-side_query-eq0.true

pub side_query-requires-2 : goal.side_query-requires-2
side_query-requires-2 c =
    (q-range c.requires c.corners_of-k.ensures, r-range c.requires c.corners_of-k.ensures, c.requires.turn.ready.range)

pub returns-then-side_query-eq0-2 : goal.returns-then-side_query-eq0-2
returns-then-side_query-eq0-2 c =
    place-b c.requires c.corners_of-k.ensures c.is_position.ensures c.if-is_position.false
    c.is_position-2.ensures c.if-is_position-2.false
    c.is_position-3.ensures c.if-is_position-3.false c.side_query.ensures (sfits_of c.side_query.type_inv) c.if-side_query-eq0.false
    c.side_query-2.ensures (sfits_of c.side_query-2.type_inv) c.if-side_query-eq0-2.true

pub side_query-requires-3 : goal.side_query-requires-3
side_query-requires-3 c =
    (r-range c.requires c.corners_of-k.ensures, p-range c.requires c.corners_of-k.ensures, c.requires.turn.ready.range)

pub returns-then-side_query-eq0-3 : goal.returns-then-side_query-eq0-3
returns-then-side_query-eq0-3 c =
    place-c c.requires c.corners_of-k.ensures c.is_position.ensures c.if-is_position.false
    c.is_position-2.ensures c.if-is_position-2.false
    c.is_position-3.ensures c.if-is_position-3.false c.side_query.ensures (sfits_of c.side_query.type_inv) c.if-side_query-eq0.false
    c.side_query-2.ensures (sfits_of c.side_query-2.type_inv) c.if-side_query-eq0-2.false
    c.side_query-3.ensures (sfits_of c.side_query-3.type_inv) c.if-side_query-eq0-3.true

pub face-requires : goal.face-requires
face-requires c =
    (corners-in c.requires).here

pub returns : goal.returns
returns c =
    place-face c.requires c.corners_of-k.ensures c.is_position.ensures c.if-is_position.false
    c.is_position-2.ensures c.if-is_position-2.false
    c.is_position-3.ensures c.if-is_position-3.false c.side_query.ensures (sfits_of c.side_query.type_inv) c.if-side_query-eq0.false
    c.side_query-2.ensures (sfits_of c.side_query-2.type_inv) c.if-side_query-eq0-2.false
    c.side_query-3.ensures (sfits_of c.side_query-3.type_inv) c.if-side_query-eq0-3.false c.face.ensures
