-- `replay_samples::angles::numbers_of` meets its contract: an angle is valid, and each count is 8 times a power of two. Assumes nothing.
use lib.Dec.{lit≤}
use mathlib.Core.Path.{refl}
use Rattle.angle.proofs.Bits.{angle-valid}
use Rattle.replay_samples.proofs.angles.numbers_of.Goals as goal

pub turns_of-requires : goal.turns_of-requires
turns_of-requires c = angle-valid _ c.requires

pub floored_bucket-requires : goal.floored_bucket-requires
floored_bucket-requires c = (angle-valid _ c.requires, record { power = (0, refl); most = lit≤ tt })

pub ceiled_bucket-requires : goal.ceiled_bucket-requires
ceiled_bucket-requires c = (c.requires, record { power = (0, refl); most = lit≤ tt })

pub floored_bucket-requires-2 : goal.floored_bucket-requires-2
floored_bucket-requires-2 c = (angle-valid _ c.requires, record { power = (3, refl); most = lit≤ tt })

pub ceiled_bucket-requires-2 : goal.ceiled_bucket-requires-2
ceiled_bucket-requires-2 c = (c.requires, record { power = (3, refl); most = lit≤ tt })

pub floored_bucket-requires-3 : goal.floored_bucket-requires-3
floored_bucket-requires-3 c = (angle-valid _ c.requires, record { power = (17, refl); most = lit≤ tt })

pub ceiled_bucket-requires-3 : goal.ceiled_bucket-requires-3
ceiled_bucket-requires-3 c = (c.requires, record { power = (17, refl); most = lit≤ tt })
