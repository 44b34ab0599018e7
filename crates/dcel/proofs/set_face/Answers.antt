-- `dcel::set_face` meets its contract. Assumes nothing.
use Rattle.dcel.proofs.Rows.{store-face}
use Rattle.dcel.proofs.set_face.Goals as goal

pub returns : goal.returns
returns c = search store-face
