-- `search_near::first_edge` meets its contract. Assumes nothing.
use borrow.Author.Rules.{sfits_of}
use mir.Facts.{to_z-of_z}
use mathlib.Core.Path.{refl, ◌∙◌}
use Rattle.search_near.proofs.NearLaws.{start-there, start_back, start-placed, end-placed, ends-range, faces-back, faces-on}
use mir.Syntax.{w64}
use Rattle.search_near.proofs.first_edge.Goals as goal

pub origin-v-requires : goal.origin-v-requires
origin-v-requires c = start-there c.requires refl

pub to-w-requires : goal.to-w-requires
to-w-requires c = start_back c.requires refl

pub position-from-requires : goal.position-from-requires
position-from-requires c = start-placed c.requires refl c.origin-v.ensures

pub position-to-requires : goal.position-to-requires
position-to-requires c = end-placed c.requires refl c.origin-v.ensures c.to-w.ensures

pub side_query-area-requires : goal.side_query-area-requires
side_query-area-requires c = ends-range c.requires refl c.origin-v.ensures c.to-w.ensures c.position-from.ensures c.position-to.ensures

pub returns-then-area-lt0 : goal.returns-then-area-lt0
returns-then-area-lt0 c = faces-back c.requires refl c.origin-v.ensures c.to-w.ensures c.position-from.ensures c.position-to.ensures (to_z-of_z {w = w64} (sfits_of c.side_query-area.type_inv) ∙ c.side_query-area.ensures) c.if-area-lt0.true c.rev.ensures

pub returns : goal.returns
returns c = faces-on c.requires refl c.origin-v.ensures c.to-w.ensures c.position-from.ensures c.position-to.ensures (to_z-of_z {w = w64} (sfits_of c.side_query-area.type_inv) ∙ c.side_query-area.ensures) refl
