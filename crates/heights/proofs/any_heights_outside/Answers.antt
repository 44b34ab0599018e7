-- `heights::any_heights_outside` meets its contract. Assumes nothing.
use Rattle.heights.proofs.HeightsLaws.{seed-there}
use Rattle.heights.proofs.any_heights_outside.Goals as goal

pub heights_outside-requires : goal.heights_outside-requires
heights_outside-requires c = seed-there _ _ c.requires.0

pub heights_outside-requires-else-heights_outside : goal.heights_outside-requires-else-heights_outside
heights_outside-requires-else-heights_outside c = let e = c.point_count.ensures in rw e c.requires.1
