-- `ring_insert::place` meets its contract. Assumes nothing.
use Rattle.ring_insert.proofs.Placing.{placed-stays, placed-goes}
use Rattle.ring_insert.proofs.place.Goals as goal

pub returns-then-choice : goal.returns-then-choice
returns-then-choice c = placed-stays _ _ _ _ c.store.ensures c.set_right.ensures c.set_left.ensures _ c.if-choice.true c.set_edge.ensures

pub returns-else-choice : goal.returns-else-choice
returns-else-choice c = placed-goes _ _ _ _ c.store.ensures c.set_right.ensures c.set_left.ensures _ c.if-choice.false
