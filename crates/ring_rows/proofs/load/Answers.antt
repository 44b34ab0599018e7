-- `ring_rows::load` meets its contract. Assumes nothing.
use Rattle.ring_rows.proofs.Row.{loaded}
use Rattle.ring_rows.proofs.load.Goals as goal

pub returns : goal.returns
returns c = loaded _ _ _ c.requires
