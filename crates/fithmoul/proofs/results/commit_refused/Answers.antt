-- `fithmoul::results::commit_refused` meets its contract. Assumes nothing.
use mathlib.Core.Path.{◌∙◌, ap}
use Rattle.fithmoul.specs.Results.{with_changes}
use borrow.Author.Rules.{rules}
use Rattle.fithmoul.proofs.results.commit_refused.Goals as goal

pub returns : goal.returns
returns c = c.with_changes.ensures ∙ ap (with_changes _) c.from.ensures
