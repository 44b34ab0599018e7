-- `ring_insert::is_fit` meets its contract. Assumes nothing.
use Rattle.ring_insert.proofs.Deciding.{first-asked, first-stops, next-asked, next-stops, stopped, counted}
use Rattle.ring_insert.proofs.is_fit.Goals as goal
use Rattle.ring_insert.proofs.is_fit.Goals.{then-not-equal, else-not-equal, then-not-is_wide, else-not-is_wide}

pub returns-then-not-is_wide-2 : goal.returns-then-not-is_wide-2
returns-then-not-is_wide-2 c =
    counted _ _ _ _ _ _
    (elim c.if-not-equal.branch [
      | then-not-equal w ↦ first-asked c.equal.ensures w.if-not-equal.true w.is_wide.ensures w.value-is
      | else-not-equal w ↦ first-stops _ c.equal.ensures w.if-not-equal.false w.value-is
    ])
    (elim c.if-not-is_wide.branch [
      | then-not-is_wide w ↦ next-asked w.if-not-is_wide.true w.is_wide-then-not-is_wide.ensures w.value-is
      | else-not-is_wide w ↦ next-stops _ w.if-not-is_wide.false w.value-is
    ])
    c.if-not-is_wide-2.true c.equal-then-not-is_wide-2.ensures c.from.ensures

pub returns-else-not-is_wide-2 : goal.returns-else-not-is_wide-2
returns-else-not-is_wide-2 c =
    stopped _ _ _ _ _ _
    (elim c.if-not-equal.branch [
      | then-not-equal w ↦ first-asked c.equal.ensures w.if-not-equal.true w.is_wide.ensures w.value-is
      | else-not-equal w ↦ first-stops _ c.equal.ensures w.if-not-equal.false w.value-is
    ])
    (elim c.if-not-is_wide.branch [
      | then-not-is_wide w ↦ next-asked w.if-not-is_wide.true w.is_wide-then-not-is_wide.ensures w.value-is
      | else-not-is_wide w ↦ next-stops _ w.if-not-is_wide.false w.value-is
    ])
    c.if-not-is_wide-2.false
