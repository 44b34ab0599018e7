-- `replay_samples::angles::floored_bucket` meets its contract: each count is 8 times a power of two. Assumes nothing.
use lib.Dec.{lit≤}
use mathlib.Core.Path.{refl}
use Rattle.replay_samples.proofs.angles.floored_bucket.Goals as goal

pub floored_bucket-requires-in-64 : goal.floored_bucket-requires-in-64
floored_bucket-requires-in-64 c = (c.requires, record { power = (3, refl); most = lit≤ tt })

pub floored_bucket-requires-in-1024 : goal.floored_bucket-requires-in-1024
floored_bucket-requires-in-1024 c = (c.requires, record { power = (7, refl); most = lit≤ tt })

pub floored_bucket-requires-in-1048576 : goal.floored_bucket-requires-in-1048576
floored_bucket-requires-in-1048576 c = (c.requires, record { power = (17, refl); most = lit≤ tt })
