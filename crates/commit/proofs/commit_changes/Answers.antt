-- `commit::commit_changes` meets its contract. Assumes nothing.
use mathlib.Core.Path.{refl, sym, ◌∙◌}
use native.Mathlib.Omega.{arith}
use Rattle.commit.specs.Commit.{commit_changes}
use borrow.Author.Rules.{rules}
use Rattle.commit.proofs.commit_changes.Goals as goal

pub returns-then-is_counted : goal.returns-then-is_counted
unfolding commit_changes
returns-then-is_counted c = rw (sym c.is_counted.ensures ∙ c.if-is_counted.true) refl

pub returns-else-is_counted : goal.returns-else-is_counted
unfolding commit_changes
returns-else-is_counted c = rw (sym c.is_counted.ensures ∙ c.if-is_counted.false) (omega arith)
