-- `answers::zero_if_skipped` meets its contract. Assumes nothing.
use mathlib.Core.Path.{refl, ◌∙◌, sym}
use Rattle.answers.specs.AnswerRows.{zeroed_at}
use Rattle.answers.proofs.zero_if_skipped.Goals as goal

pub returns-else-is_skipped : goal.returns-else-is_skipped
unfolding zeroed_at
returns-else-is_skipped c = rw (sym c.is_skipped.ensures ∙ c.if-is_skipped.false) refl

pub returns-then-is_skipped : goal.returns-then-is_skipped
unfolding zeroed_at
returns-then-is_skipped c = c.store_words.ensures ∙ rw (sym c.is_skipped.ensures ∙ c.if-is_skipped.true) refl
