-- `ring_rows::set_right` meets its contract. Assumes nothing.
use Rattle.ring_rows.specs.Rows.{with_right}
use Rattle.ring_rows.proofs.Row.{field_stored}
use Rattle.ring_rows.proofs.set_right.Goals as goal

pub returns : goal.returns
returns c = field_stored with_right _ _ _ _ c.requires
