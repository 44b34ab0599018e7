-- `segment::ceiled_bucket` meets its contract, as `floored_bucket` does. Assumes nothing.
use mathlib.Core.Path.{sym, ap, ◌∙◌, subst}
use Prim.Native.Nat.{ℕ, ◌<◌}
use native.Mathlib.Omega.{arith}
use lib.Pow.{pow_pos}
use Rattle.angle.proofs.Bits.{angle-valid}
use Rattle.segment.specs.Bucket.{ceil_of}
use Rattle.segment.proofs.Laws.{bucket-pos, ceiled-whole}
use Rattle.segment.proofs.Shift.{ceil-is, one_shift, shift-most, below}
use Rattle.segment.proofs.ceiled_bucket.Goals as goal

pub turns_of-k-requires : goal.turns_of-k-requires
turns_of-k-requires c = angle-valid c.args.a c.requires.0

pub overflow_sub-result : goal.overflow_sub-result
overflow_sub-result c = let s = c.bucket_shift-shift.result in subst (λ (x : ℕ). 0 < x) (sym (one_shift s _ c.bucket_shift-shift.ensures)) (pow_pos s)

pub overflow_add-result : goal.overflow_add-result
overflow_add-result c =
    let s = c.bucket_shift-shift.result in
    let b = c.bucket_shift-shift.ensures in
    omega (arith, one_shift s _ b, shift-most s _ b, c.turns_of-k.ensures.small)

pub overflow_sub-result-2 : goal.overflow_sub-result-2
overflow_sub-result-2 c = bucket-pos c.args.count c.requires.1

pub returns : goal.returns
returns c =
    let n = c.args.count in
    let h = c.requires.1 in
    let whole = ceil-is c.turns_of-k.result c.bucket_shift-shift.result n h c.bucket_shift-shift.ensures ∙ ap (λ (k : ℕ). ceil_of k n) c.turns_of-k.ensures.is in
    record { is = whole ∙ sym (ceiled-whole n c.args.a h c.requires.0); whole = whole; below = subst (λ (x : ℕ). x < n) (sym whole) (below _ n h) }
