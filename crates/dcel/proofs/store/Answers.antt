-- `dcel::store` meets its contract. Assumes nothing.
use Rattle.dcel.proofs.Rows.{store-row}
use Rattle.dcel.proofs.store.Goals as goal

pub returns : goal.returns
returns c = search store-row
