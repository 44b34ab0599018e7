-- `complete::count_skipped` meets its contract. Assumes nothing.
use native.Mathlib.Omega.{arith}
use Rattle.complete.proofs.NoneLaws.{none_more, not-counted, counted-most}
use Rattle.complete.proofs.count_skipped.Goals as goal

pub loop-i-init : goal.loop-i-init
loop-i-init c = (omega arith, λ x i l. absurd (omega arith))

pub loop-i-preserved : goal.loop-i-preserved
loop-i-preserved c =
    let b = c.is_skipped.result in
    let e = c.from-skipped.ensures in
    let m = counted-most b in
    (omega arith, λ x. none_more _ _ (c.loop-i.invariant.1 (omega arith)) c.is_skipped.ensures (not-counted b (omega arith)))

pub returns : goal.returns
returns c = λ x i l. c.loop-i.invariant.1 x i (omega arith)
