-- `ring_rows::store` meets its contract. Assumes nothing.
use Rattle.ring_rows.proofs.Row.{stored}
use Rattle.ring_rows.proofs.store.Goals as goal

pub returns : goal.returns
returns c = stored _ _ _ c.requires
