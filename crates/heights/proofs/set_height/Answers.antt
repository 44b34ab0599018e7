-- `heights::set_height` meets its contract. Assumes nothing.
use mir.Facts.{to_z-of_z}
use Rattle.heights.proofs.Rows.{store-height}
use Rattle.heights.proofs.set_height.Goals as goal

pub returns : goal.returns
returns c = store-height _ _ c.requires (to_z-of_z c.ranges.z)
