-- `pending::push` meets its contract: past the end, at the end, and with room. Assumes nothing.
use native.Mathlib.Omega.{arith}
use Rattle.pending.proofs.PendingLaws.{push-fits, push-over, push-past}
use Rattle.pending.proofs.push.Goals as goal

pub returns-then-n-pending : goal.returns-then-n-pending
returns-then-n-pending c = λ l h. push-past h (omega arith) c.if-n-pending.true

pub returns-then-n-pending-2 : goal.returns-then-n-pending-2
returns-then-n-pending-2 c = λ l h. push-over h _ c.if-n-pending-2.true

pub returns : goal.returns
returns c = λ l h. push-fits h _ (omega arith)
