-- `dcel::set_next` meets its contract. Assumes nothing.
use Rattle.dcel.proofs.Rows.{store-next}
use Rattle.dcel.proofs.set_next.Goals as goal

pub returns : goal.returns
returns c = search store-next
