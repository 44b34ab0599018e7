-- `fithmoul::results::run_result` meets its contract. Assumes nothing.
use mathlib.Core.Path.{◌∙◌, ap₂}
use Rattle.fithmoul.specs.Results.{ran_with_changes}
use borrow.Author.Rules.{rules}
use Rattle.fithmoul.proofs.results.run_result.Goals as goal

pub returns : goal.returns
returns c =
    c.ran_with_changes.ensures ∙ ap₂ ran_with_changes c.run_changes-after.ensures c.from.ensures
