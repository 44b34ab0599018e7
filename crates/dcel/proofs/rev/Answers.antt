-- `dcel::rev` meets its contract. Assumes nothing.
use Rattle.sums.proofs.HalfLaws.{rev-xor}
use Rattle.dcel.proofs.rev.Goals as goal

pub returns : goal.returns
returns c = rev-xor _
