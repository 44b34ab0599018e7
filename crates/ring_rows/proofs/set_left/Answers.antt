-- `ring_rows::set_left` meets its contract. Assumes nothing.
use Rattle.ring_rows.specs.Rows.{with_left}
use Rattle.ring_rows.proofs.Row.{field_stored}
use Rattle.ring_rows.proofs.set_left.Goals as goal

pub returns : goal.returns
returns c = field_stored with_left _ _ _ _ c.requires
