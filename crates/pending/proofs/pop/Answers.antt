-- `pending::pop` meets its contract. Assumes nothing.
use Rattle.pending.proofs.SetLaws.{pop-marked, pop-bit, pop-plain}
use Rattle.pending.proofs.pop.Goals as goal
use Rattle.pending.proofs.pop.Goals.{then-set, else-set}

pub unmark-requires : goal.unmark-requires
unmark-requires c = pop-marked c.requires c.if-set.true

pub returns : goal.returns
returns c = elim c.if-set.branch [
  | then-set w ↦ rw w.pending-is (pop-bit c.requires w.if-set.true w.unmark.ensures)
  | else-set w ↦ rw w.pending-is (pop-plain c.requires w.if-set.false)
]
