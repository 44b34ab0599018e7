-- `pending::push_missing` meets its contract. Assumes nothing.
use native.Mathlib.Omega.{arith}
use Rattle.pending.proofs.PendingLaws.{push-past, push-length, pushed-contained, pushed-missing}
use mathlib.Core.Path.{sym, ◌∙◌}
use Rattle.pending.proofs.push_missing.Goals as goal

pub returns-then-n-pending : goal.returns-then-n-pending
returns-then-n-pending c = λ l h. push-past h (push-length _ l).0 c.if-n-pending.true

pub returns-then-contains : goal.returns-then-contains
returns-then-contains c = λ l h. pushed-contained h (omega arith) _ (sym c.contains.ensures ∙ c.if-contains.true)

pub returns : goal.returns
returns c = λ l h. pushed-missing h (omega arith) _ (sym c.contains.ensures ∙ c.if-contains.false) (c.push.ensures (_) h)
