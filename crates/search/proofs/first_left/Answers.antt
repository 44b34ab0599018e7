-- `search::first_left` meets its contract. The invariant: the point is strictly left of no half-edge from the stored one on to e.
-- The measure is what the row's length leaves of the steps to e. Assumes nothing.
use mathlib.Core.Path.{◌∙◌}
use borrow.Author.Rules.{sfits_of}
use mir.Facts.{to_z-of_z}
use Rattle.search.specs.Scanning.{outer-there, start-there, along-placed, along-start, along-there, along-next, along-next-placed, along-range, along-hit, along-on, along-less}
use mir.Syntax.{w64}
use Rattle.search.proofs.first_left.Goals as goal

pub adjacent-e-requires : goal.adjacent-e-requires
adjacent-e-requires c = outer-there c.requires

pub origin-u-requires : goal.origin-u-requires
origin-u-requires c =
    start-there c.requires c.adjacent-e.ensures

pub position-from-requires : goal.position-from-requires
position-from-requires c =
    along-placed c.requires c.adjacent-e.ensures c.origin-u.ensures

pub loop-point-init : goal.loop-point-init
loop-point-init c =
    along-start c.requires c.adjacent-e.ensures c.origin-u.ensures c.position-from.ensures

pub next-next-requires : goal.next-next-requires
next-next-requires c =
    along-there c.requires c.adjacent-e.ensures c.loop-point.invariant

pub origin-v-requires : goal.origin-v-requires
origin-v-requires c =
    along-next c.requires c.adjacent-e.ensures c.loop-point.invariant c.next-next.ensures

pub position-to-requires : goal.position-to-requires
position-to-requires c =
    along-next-placed c.requires c.adjacent-e.ensures c.loop-point.invariant c.next-next.ensures c.origin-v.ensures

pub side_query-requires : goal.side_query-requires
side_query-requires c =
    along-range c.requires c.adjacent-e.ensures c.loop-point.invariant c.next-next.ensures c.origin-v.ensures c.position-to.ensures

pub returns-then-side_query-gt0 : goal.returns-then-side_query-gt0
returns-then-side_query-gt0 c =
    along-hit c.requires c.adjacent-e.ensures c.loop-point.invariant c.next-next.ensures c.origin-v.ensures c.position-to.ensures
    (to_z-of_z {w = w64} (sfits_of c.side_query.type_inv) ∙ c.side_query.ensures) c.if-side_query-gt0.true

pub loop-point-smaller : goal.loop-point-smaller
loop-point-smaller c =
    along-less c.requires c.adjacent-e.ensures c.loop-point.invariant c.next-next.ensures c.origin-v.ensures c.position-to.ensures
    (to_z-of_z {w = w64} (sfits_of c.side_query.type_inv) ∙ c.side_query.ensures) c.if-side_query-gt0.false

pub loop-point-preserved : goal.loop-point-preserved
loop-point-preserved c =
    along-on c.requires c.adjacent-e.ensures c.loop-point.invariant c.next-next.ensures c.origin-v.ensures c.position-to.ensures
    (to_z-of_z {w = w64} (sfits_of c.side_query.type_inv) ∙ c.side_query.ensures) c.if-side_query-gt0.false
