-- `fithmoul::results::commit_result` meets its contract. Assumes nothing.
use mathlib.Core.Path.{◌∙◌, ap₂}
use Rattle.fithmoul.specs.Results.{with_changes}
use borrow.Author.Rules.{rules}
use Rattle.fithmoul.proofs.results.commit_result.Goals as goal

pub returns : goal.returns
returns c =
    c.with_changes.ensures ∙ ap₂ with_changes c.commit_changes-after.ensures c.from.ensures
