-- `convexity::close_behind` meets its contract. Assumes nothing.
use mathlib.Core.Path.{refl, ◌∙◌}
use Rattle.convexity.proofs.Rows.{last-there, close-ready, closed_is}
use Rattle.convexity.proofs.close_behind.Goals as goal

pub prev-edge1-requires : goal.prev-edge1-requires
prev-edge1-requires c = last-there c.requires c.prev-edge2.ensures refl

pub close_corner-requires : goal.close_corner-requires
close_corner-requires c = close-ready c.requires c.prev-edge2.ensures c.prev-edge1.ensures

pub returns : goal.returns
returns c = c.close_corner.ensures ∙ closed_is c.requires c.prev-edge2.ensures c.prev-edge1.ensures _
