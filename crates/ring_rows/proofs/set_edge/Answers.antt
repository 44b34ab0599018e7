-- `ring_rows::set_edge` meets its contract. Assumes nothing.
use Rattle.ring_rows.specs.Rows.{with_edge}
use Rattle.ring_rows.proofs.Row.{field_stored}
use Rattle.ring_rows.proofs.set_edge.Goals as goal

pub returns : goal.returns
returns c = field_stored with_edge _ _ _ _ c.requires
