-- `search::across_edge` meets its contract. Assumes nothing.
use mir.Facts.{to_z-of_z}
use Rattle.search.specs.Turns.{across-left, across-right, across-line}
use Rattle.search.proofs.across_edge.Goals as goal

pub returns-then-area-gt0 : goal.returns-then-area-gt0
returns-then-area-gt0 c o a e1 x = across-left _ _ (to_z-of_z c.ranges.area) o a e1 x c.if-area-gt0.true

pub returns-then-area-lt0 : goal.returns-then-area-lt0
returns-then-area-lt0 c o a e1 x =
    across-right _ _ (to_z-of_z c.ranges.area) o a e1 x c.if-area-gt0.false c.if-area-lt0.true (c.beyond.ensures o a)

pub returns : goal.returns
returns c o a e1 x =
    across-line _ _ (to_z-of_z c.ranges.area) o a e1 x c.if-area-gt0.false c.if-area-lt0.false
