-- `pending::last` meets its contract. Assumes nothing.
use Rattle.pending.proofs.PendingLaws.{pending-last}
use Rattle.pending.proofs.last.Goals as goal

pub returns : goal.returns
returns c = pending-last _ _ c.requires.0
