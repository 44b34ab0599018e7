-- `commit::run_changes` meets its contract. Assumes nothing.
use mathlib.Core.Path.{refl, sym, ◌∙◌}
use Rattle.commit.specs.Commit.{run_changes}
use borrow.Author.Rules.{rules}
use Rattle.commit.proofs.run_changes.Goals as goal

pub returns-then-is_made : goal.returns-then-is_made
unfolding run_changes
returns-then-is_made c = rw (sym c.is_made.ensures ∙ c.if-is_made.true) refl

pub returns-else-is_made : goal.returns-else-is_made
unfolding run_changes
returns-else-is_made c = rw (sym c.is_made.ensures ∙ c.if-is_made.false) refl
