-- `segment::floored_bucket` meets its contract: a shift by a bucket's width and a mask by the count. Assumes nothing.
use mathlib.Core.Path.{sym, ap, ◌∙◌, subst}
use Prim.Native.Nat.{ℕ, ◌<◌}
use Rattle.segment.specs.Bucket.{floor_of}
use Rattle.segment.proofs.Laws.{bucket-pos, floored-whole}
use Rattle.segment.proofs.Shift.{floor-is, below}
use Rattle.segment.proofs.floored_bucket.Goals as goal

pub overflow_sub-result : goal.overflow_sub-result
overflow_sub-result c = bucket-pos c.args.count c.requires.1

pub returns : goal.returns
returns c =
    let n = c.args.count in
    let h = c.requires.1 in
    let whole = floor-is c.turns_of-k.result c.bucket_shift.result n h c.bucket_shift.ensures ∙ ap (λ (k : ℕ). floor_of k n) c.turns_of-k.ensures.is in
    record { is = whole ∙ sym (floored-whole n c.args.a h); whole = whole; below = subst (λ (x : ℕ). x < n) (sym whole) (below _ n h) }
