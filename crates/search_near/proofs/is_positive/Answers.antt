-- `search_near::is_positive` meets its contract. Assumes nothing.
use mir.Facts.{to_z-of_z}
use Rattle.search_near.proofs.NearLaws.{positive-first, positive-second, positive-not}
use Rattle.search_near.proofs.is_positive.Goals as goal

pub returns-then-a-gt0 : goal.returns-then-a-gt0
returns-then-a-gt0 c = rw (to_z-of_z c.ranges.a) (positive-first c.args.a c.args.b (rw (to_z-of_z c.ranges.a) at c.if-a-gt0.true))

pub returns-then-a-ge0 : goal.returns-then-a-ge0
returns-then-a-ge0 c = rw (to_z-of_z c.ranges.b) (positive-second c.args.a c.args.b (rw (to_z-of_z c.ranges.a) at c.if-a-gt0.false) (rw (to_z-of_z c.ranges.a) at c.if-a-ge0.true))

pub returns-else-a-ge0 : goal.returns-else-a-ge0
returns-else-a-ge0 c = rw (to_z-of_z c.ranges.a) (positive-not c.args.a c.args.b (rw (to_z-of_z c.ranges.a) at c.if-a-gt0.false) (rw (to_z-of_z c.ranges.a) at c.if-a-ge0.false))
