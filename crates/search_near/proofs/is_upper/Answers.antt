-- `search_near::is_upper` meets its contract. Assumes nothing.
use borrow.Author.Rules.{rules}
use mathlib.Core.Path.{◌∙◌, ap₂}
use mir.Facts.{to_z-of_z}
use mir.Syntax.{w64}
use Rattle.outline.specs.Outline.{upper}
use Rattle.search_near.specs.NearRows.{is_positive_of}
use Rattle.search_near.proofs.is_upper.Goals as goal

pub returns : goal.returns
unfolding upper is_positive_of
returns c = c.is_positive.ensures ∙ ap₂ is_positive_of (to_z-of_z {w = w64} {z = c.args.v.y} (search rules)) (to_z-of_z {w = w64} {z = c.args.v.x} (search rules))
