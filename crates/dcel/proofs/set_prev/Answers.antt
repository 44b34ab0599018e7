-- `dcel::set_prev` meets its contract. Assumes nothing.
use Rattle.dcel.proofs.Rows.{store-prev}
use Rattle.dcel.proofs.set_prev.Goals as goal

pub returns : goal.returns
returns c = search store-prev
