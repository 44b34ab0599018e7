-- `apply_rows::beside` meets its contract. Assumes nothing.
use Rattle.apply.specs.ApplyRows.{beside_in}
use Rattle.apply_rows.proofs.beside.Goals as goal

pub returns-in-Left : goal.returns-in-Left
unfolding beside_in
returns-in-Left c = rw c.in-Left.is c.prev.ensures

pub returns-in-Right : goal.returns-in-Right
unfolding beside_in
returns-in-Right c = rw c.in-Right.is c.next.ensures
