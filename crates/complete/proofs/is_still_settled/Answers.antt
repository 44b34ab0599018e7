-- `complete::is_still_settled` meets its contract. Assumes nothing.
use mathlib.Core.Logic.{inl, inr}
use mathlib.Core.Path.{sym, ◌∙◌}
use Rattle.sums.proofs.BitLaws.{from-true}
use Rattle.answers.specs.AnswerRows.{fate_in}
use Rattle.complete.specs.CompleteRows.{inside_number, StillSettled}
use Rattle.complete.proofs.is_still_settled.Goals as goal

pub returns-then-after-vertex : goal.returns-then-after-vertex
unfolding StillSettled
returns-then-after-vertex c = λ t. (from-true c.if-settled.true, inl c.if-after-vertex.true)

pub returns-then-has_fate : goal.returns-then-has_fate
unfolding StillSettled fate_in inside_number
returns-then-has_fate c = λ t. (
  from-true c.if-settled.true,
  inr (from-true (sym c.has_fate.ensures ∙ c.if-has_fate.true), c.is_unbroken_at.ensures t),
)
