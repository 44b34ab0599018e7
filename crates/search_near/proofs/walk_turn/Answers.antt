-- `search_near::walk_turn` meets its contract. Assumes nothing.
use mathlib.Core.Path.{◌∙◌}
use borrow.Author.Rules.{sfits_of}
use mir.Facts.{to_z-of_z}
use Rattle.search_near.proofs.NearLaws.{turn-there, prev-there, far-placed, before-range, after-range, over-prev, over-next, turn_inside}
use mir.Syntax.{w64}
use Rattle.search_near.proofs.walk_turn.Goals as goal

pub half_edge-half-requires : goal.half_edge-half-requires
half_edge-half-requires c = turn-there c.requires

pub origin-v-requires : goal.origin-v-requires
origin-v-requires c = prev-there c.requires c.half_edge-half.ensures c.if-half-eq0.false

pub position-far-requires : goal.position-far-requires
position-far-requires c = far-placed c.requires c.half_edge-half.ensures c.if-half-eq0.false c.origin-v.ensures

pub side_query-before-requires : goal.side_query-before-requires
side_query-before-requires c = before-range c.requires c.half_edge-half.ensures c.if-half-eq0.false c.origin-v.ensures c.position-far.ensures

pub returns-then-before-lt0 : goal.returns-then-before-lt0
returns-then-before-lt0 c = over-prev c.requires c.half_edge-half.ensures c.if-half-eq0.false c.origin-v.ensures c.position-far.ensures (to_z-of_z {w = w64} (sfits_of c.side_query-before.type_inv) ∙ c.side_query-before.ensures) c.if-before-lt0.true c.rev.ensures

pub side_query-after-requires : goal.side_query-after-requires
side_query-after-requires c = after-range c.requires c.half_edge-half.ensures c.if-half-eq0.false c.origin-v.ensures c.position-far.ensures

pub returns-then-after-lt0 : goal.returns-then-after-lt0
returns-then-after-lt0 c = over-next c.requires c.half_edge-half.ensures c.if-half-eq0.false c.origin-v.ensures c.position-far.ensures (to_z-of_z {w = w64} (sfits_of c.side_query-after.type_inv) ∙ c.side_query-after.ensures) c.if-after-lt0.true c.rev-then-after-lt0.ensures

pub returns-then-after-gt0 : goal.returns-then-after-gt0
returns-then-after-gt0 c = turn_inside c.requires c.half_edge-half.ensures c.if-half-eq0.false c.origin-v.ensures c.position-far.ensures (to_z-of_z {w = w64} (sfits_of c.side_query-after.type_inv) ∙ c.side_query-after.ensures) (to_z-of_z {w = w64} (sfits_of c.side_query-before.type_inv) ∙ c.side_query-before.ensures) c.if-at.true c.if-before-gt0.true c.if-after-gt0.true
