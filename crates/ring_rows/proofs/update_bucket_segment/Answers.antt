-- `ring_rows::update_bucket_segment` meets its contract. Assumes nothing.
use native.Mathlib.Omega.{arith}
use Rattle.ring_rows.proofs.Range.{filled, filled-front, length-filled, updated-one, updated-two}
use Rattle.ring_rows.proofs.update_bucket_segment.Goals as goal

pub returns-then-from-to : goal.returns-then-from-to
returns-then-from-to c =
    let R = c.requires in
    updated-one c.if-from-to.true R.2 (filled _ _ _ _ _ c.if-from-to.true (omega arith) (c.fill.ensures.after (λ y e. e)))

pub returns-else-from-to : goal.returns-else-from-to
returns-else-from-to c =
    let R = c.requires in
    let e = c.fill-else-from-to.ensures.after (λ y e. e) in
    let l = length-filled _ _ _ _ _ R.1 R.0 e in
    updated-two c.if-from-to.false R.1 (filled _ _ _ _ _ R.1 R.0 e)
    (filled-front _ _ _ _ (omega arith) (c.fill-else-from-to-2.ensures.after (λ y e. e)))
