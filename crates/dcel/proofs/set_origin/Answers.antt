-- `dcel::set_origin` meets its contract. Assumes nothing.
use Rattle.dcel.proofs.Rows.{store-origin}
use Rattle.dcel.proofs.set_origin.Goals as goal

pub returns : goal.returns
returns c = search store-origin
