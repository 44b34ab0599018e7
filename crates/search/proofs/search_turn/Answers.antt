-- `search::search_turn` meets its contract. Assumes nothing.
use Rattle.search.specs.Turns.{here-there, back-there, origin-placed, to-placed, ends-ready, at-origin, at-to, at-neither}
use Rattle.search.proofs.search_turn.Goals as goal

pub origin-u-requires : goal.origin-u-requires
origin-u-requires c = here-there c.requires

pub position-from-requires : goal.position-from-requires
position-from-requires c = (origin-placed c.requires c.origin-u.ensures).there

pub returns-then-is_position : goal.returns-then-is_position
returns-then-is_position c =
    at-origin c.requires c.origin-u.ensures c.position-from.ensures c.is_position.ensures c.if-is_position.true

pub to-w-requires : goal.to-w-requires
to-w-requires c =
    back-there c.requires

pub position-to-requires : goal.position-to-requires
position-to-requires c =
    (to-placed c.requires c.to-w.ensures).there

pub returns-then-is_position-2 : goal.returns-then-is_position-2
returns-then-is_position-2 c =
    at-to c.requires c.origin-u.ensures c.position-from.ensures c.is_position.ensures c.if-is_position.false
    c.to-w.ensures c.position-to.ensures
    c.is_position-2.ensures c.if-is_position-2.true

pub by_side-requires : goal.by_side-requires
by_side-requires c =
    ends-ready c.requires c.origin-u.ensures c.position-from.ensures c.is_position.ensures c.if-is_position.false
    c.to-w.ensures c.position-to.ensures
    c.is_position-2.ensures

pub returns : goal.returns
returns c o a =
    at-neither c.requires c.origin-u.ensures c.position-from.ensures c.is_position.ensures c.if-is_position.false
    c.to-w.ensures c.position-to.ensures
    c.is_position-2.ensures c.if-is_position-2.false o a (c.by_side.ensures o a)
