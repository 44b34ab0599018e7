-- `math::is_ordered_ccw` meets its contract: the test of the area's sign.
-- Assumes nothing.
use mathlib.Core.Path.{◌∙◌, ap}
use borrow.Author.Rules.{sfits_of}
use lib.IntN.{pos}
use lib.Signed.{le_z}
use mir.Facts.{to_z-of_z}
use mir.Syntax.{w64}
use Rattle.math.proofs.is_ordered_ccw.Goals as goal

pub returns : goal.returns
returns c = ap (le_z (pos 0)) (to_z-of_z {w = w64} (sfits_of c.side_query.type_inv) ∙ c.side_query.ensures)
