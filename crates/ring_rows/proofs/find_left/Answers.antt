-- `ring_rows::find_left` meets its contract. Assumes nothing.
use Rattle.angle.proofs.Bits.{angle-valid}
use Rattle.ring_rows.proofs.Laws.{floor-below, got-at}
use Rattle.ring_rows.proofs.find_left.Goals as goal

pub get-requires : goal.get-requires
get-requires c = let P = c.requires in (P.0.rows, angle-valid _ P.1)

pub returns-in-None : goal.returns-in-None
returns-in-None c = let R = c.requires.0.rows in got-at R (floor-below _ R.counted) c.get.ensures
