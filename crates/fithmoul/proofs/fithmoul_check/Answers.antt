-- `fithmoul::fithmoul_check` meets its contract. Assumes nothing.
use mathlib.Core.Path.{◌∙◌, ap}
use Rattle.fithmoul.specs.Results.{check_result}
use borrow.Author.Rules.{rules}
use Rattle.fithmoul.proofs.fithmoul_check.Goals as goal

pub returns : goal.returns
returns c = c.from.ensures ∙ ap check_result c.check_surface.ensures
