-- `convexity::left_behind` meets its contract. Assumes nothing.
use Rattle.convexity.proofs.Corners.{behind-full, behind-few, corner-ready, behind-tested}
use Rattle.convexity.proofs.left_behind.Goals as goal

pub returns-then-full : goal.returns-then-full
returns-then-full c = λ o a. behind-full _ _ _ _ c.if-full.true

pub returns-then-depth-lt2 : goal.returns-then-depth-lt2
returns-then-depth-lt2 c = λ o a. behind-few _ _ _ _ c.if-full.false c.if-depth-lt2.true

pub turns_left_at-requires : goal.turns_left_at-requires
turns_left_at-requires c = corner-ready _ _ _ c.prev-edge2.ensures c.prev-edge1.ensures c.requires.corner

pub returns : goal.returns
returns c =
    behind-tested _ _ _ c.prev-edge2.ensures c.prev-edge1.ensures _ c.if-full.false c.if-depth-lt2.false c.turns_left_at.ensures
