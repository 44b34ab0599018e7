-- A count of buckets, 2 ^ i, as the code reads it: its logarithm, its mask, and shifts by a bucket's width. Assumes nothing.
use mathlib.Core.Path.{◌≡◌, sym, ap, ◌∙◌, subst}
use Prim.Native.Nat.{ℕ, suc, ◌+◌, ◌-◌, ◌*◌, ◌/◌, ◌%◌, ◌^◌, ◌≤◌, ◌<◌}
use native.Mathlib.Nat.{one-mul, mod-eq_of_lt, mod-lt, two-pow-succ}
use native.Mathlib.Omega.{arith}
use native.Mathlib.Decide.{dec_lt}
use lib.Pow.{pow_mono, pow-lt}
use lib.Bits.{bit_and, and_mask}
use Rattle.angle.proofs.Powers.{pow_le_back}
use Rattle.segment.specs.Bucket.{Buckets, BucketShift, width, floor_of, ceil_of}
use Rattle.segment.proofs.Laws.{bucket-digits, bucket-pos}

-- ---- the logarithm
log-is : (r i : ℕ) → 2 ^ r ≤ 2 ^ i → 2 ^ i < 2 * 2 ^ r → r ≡ i
log-is r i l h = go (dec_lt r i)
  where
    go : Dec (r < i) → r ≡ i
    go (yes m) = absurd (let p : 2 ^ suc r ≤ 2 ^ i = pow_mono m in let e = two-pow-succ r in omega arith)
    go (no m) = let k = pow_le_back r i l in omega arith

pub log-digits : (r n : ℕ) (h : Buckets n) → 2 ^ r ≤ n → n < 2 * 2 ^ r → r ≡ (bucket-digits n h).0
log-digits r n h l m =
    let b = bucket-digits n h in log-is r b.0 (subst (λ (x : ℕ). 2 ^ r ≤ x) b.1 l) (subst (λ (x : ℕ). x < 2 * 2 ^ r) b.1 m)

pub digits_le : (r n : ℕ) → Buckets n → 2 ^ r ≤ n → n < 2 * 2 ^ r → r ≤ 53
digits_le r n h l m = let b = bucket-digits n h in let e = log-digits r n h l m in let t = b.3 in omega arith

pub shift_is : (r n : ℕ) → Buckets n → 2 ^ r ≤ n → n < 2 * 2 ^ r → BucketShift (53 - r) n
shift_is r n h l m =
    let b = bucket-digits n h in
    let e = log-digits r n h l m in
    record { shift = ap (λ (i : ℕ). 2 ^ (53 - i)) e ∙ sym b.4; low = let t = b.2 in omega arith }

-- ---- the mask
pub mask : (n x : ℕ) → Buckets n → bit_and x (n - 1) ≡ x % n
mask n x h = let b = bucket-digits n h in ap (λ (m : ℕ). bit_and x (m - 1)) b.1 ∙ and_mask x b.0 ∙ ap (λ (m : ℕ). x % m) (sym b.1)

pub floor-is : (k s n : ℕ) → Buckets n → BucketShift s n → bit_and (k / 2 ^ s) (n - 1) ≡ floor_of k n
floor-is k s n h b = ap (λ (w : ℕ). bit_and (k / w) (n - 1)) b.shift ∙ mask n (k / width n) h

-- 1 << s loses nothing, and is at most 2 ^ 50
pub one_shift : (s n : ℕ) → BucketShift s n → 1 * 2 ^ s % 2 ^ 64 ≡ 2 ^ s
one_shift s n b = ap (λ (x : ℕ). x % 2 ^ 64) (one-mul (2 ^ s)) ∙ mod-eq_of_lt (pow-lt {i = s} {j = 64} (more s b.low))
  where
    more : (s : ℕ) → s ≤ 50 → s < 64
    more s h = omega arith

pub shift-most : (s n : ℕ) → BucketShift s n → 2 ^ s ≤ 2 ^ 50
shift-most s n b = pow_mono b.low

pub ceil-is : (k s n : ℕ) → Buckets n → BucketShift s n → bit_and ((k + (1 * 2 ^ s % 2 ^ 64 - 1)) / 2 ^ s) (n - 1) ≡ ceil_of k n
ceil-is k s n h b =
    ap (λ (w : ℕ). bit_and ((k + (w - 1)) / 2 ^ s) (n - 1)) (one_shift s n b)
    ∙ ap (λ (w : ℕ). bit_and ((k + (w - 1)) / w) (n - 1)) b.shift
    ∙ mask n ((k + (width n - 1)) / width n) h

pub below : (x n : ℕ) → Buckets n → x % n < n
below x n h = mod-lt x (bucket-pos n h)
