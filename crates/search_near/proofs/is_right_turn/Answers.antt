-- `search_near::is_right_turn` meets its contract. Assumes nothing.
use borrow.Author.Rules.{sfits_of}
use mathlib.Core.Path.{◌∙◌, ap₂}
use mir.Facts.{to_z-of_z}
use Rattle.nearby.specs.Test.{is_right_turn}
use Rattle.search_near.specs.NearRows.{is_positive_of}
use mir.Syntax.{w64}
use Rattle.search_near.proofs.is_right_turn.Goals as goal

pub returns : goal.returns
unfolding is_right_turn is_positive_of
returns c = c.is_positive.ensures ∙ ap₂ is_positive_of (to_z-of_z {w = w64} (sfits_of c.cross.type_inv) ∙ c.cross.ensures) (to_z-of_z {w = w64} (sfits_of c.dot.type_inv) ∙ c.dot.ensures)
