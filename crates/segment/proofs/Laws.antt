-- The laws of segments and buckets: all goes by the angle's whole number of 2 ^ -53, rounded down. Assumes nothing.
use Rattle.std.specs.Prelude.{◌≡◌, refl, ◌≢◌, ℕ, zero, suc, ◌+◌, ◌-◌, ◌*◌, ◌/◌, ◌%◌, ◌^◌, ◌≤◌, ◌<◌, Bool, true, false, not, cond, ◌&&◌, ◌||◌, T, ltb, leb, ℤ, pos, Float}
use Rattle.std.proofs.Common.{sym, ap, ◌∙◌, subst, le_trans, le_antisymm, lt_irrefl, mul-one, mul_comm, mul_assoc, mul-pos, mul-div_cancel, add-mul, add-sub_of_le, suc-mul, arith, nltb→le, lit≤}
use Rattle.std.proofs.Math.Nat.{mul-div-mul_right, div-div-eq-div-mul, zero-div}
use lib.Pow.{pow-add, pow_pos}
use Rattle.std.proofs.Math.Arith.{digits_div}
use Rattle.std.specs.Float.{nan, inf, fin, binary64}
use Rattle.std.specs.Float.Ieee.{up, down, lt, mul, of_int, fits}
use Rattle.std.specs.Float.Ieee.Fits.{down_pos}
use Rattle.std.specs.Float.Ieee.Exact.{HasValue}
use Rattle.angle.specs.Angle.{IsAngle, turns, valid_angle}
use Rattle.angle.proofs.Valid.{valid-lt, valid-le}
use Rattle.angle.proofs.Powers.{pow_le_back}
use Rattle.angle.proofs.Product.{product-exact}
use Rattle.segment.specs.declared.Segment.{Segment}
use Rattle.segment.specs.declared.Segment.TheVariants.{Plain, Wrapping}
use Rattle.segment.specs.Arc.{holds}
use Rattle.segment.specs.Segment.{segment_of, EndsAreAngles, contains_angle, contains_turns}
use Rattle.segment.specs.Bucket.{Buckets, floor_times, ceil_times, floored_bucket, ceiled_bucket, width, floor_of, ceil_of}

-- ---- containment
pub contains-turns : (s : Segment) (a : Float) → EndsAreAngles s → T (valid_angle a) → contains_angle s a ≡ contains_turns s (turns a)
contains-turns (Plain s e) a g v = ap (λ (b : Bool). b && lt a e) (valid-le s a g.0 v) ∙ ap (λ (b : Bool). leb (turns s) (turns a) && b) (valid-lt a e v g.1)
contains-turns (Wrapping s e) a g v = ap (λ (b : Bool). b || lt a e) (valid-le s a g.0 v) ∙ ap (λ (b : Bool). leb (turns s) (turns a) || b) (valid-lt a e v g.1)

pub segment-good : (s e : Float) → IsAngle s → IsAngle e → EndsAreAngles (segment_of s e)
segment-good s e h k = go (ltb (turns s) (turns e))
  where
    go : (t : Bool) → EndsAreAngles (cond t (Plain s e) (Wrapping s e))
    go true = (h, k)
    go false = (h, k)

-- a segment whose ends differ holds what the arc holds
pub segment-holds : (s e : Float) → turns s ≢ turns e → (k : ℕ) → contains_turns (segment_of s e) k ≡ holds k (turns s) (turns e)
unfolding holds
segment-holds s e h k = go (ltb (turns s) (turns e)) (ltb (turns e) (turns s)) (nltb→le (turns s) (turns e)) (nltb→le (turns e) (turns s))
  where
    go : (t u : Bool) → (T (not t) → turns e ≤ turns s) → (T (not u) → turns s ≤ turns e)
        → contains_turns (cond t (Plain s e) (Wrapping s e)) k
        ≡ cond t (leb (turns s) k && ltb k (turns e)) (cond u (leb (turns s) k || ltb k (turns e)) false)
    go true u a b = refl
    go false true a b = refl
    go false false a b = absurd (h (le_antisymm (b tt) (a tt)))

-- ---- the count of buckets is a power of two that divides 2 ^ 53
-- i with n ≡ 2 ^ i
pub bucket-digits : (n : ℕ) → Buckets n
    → (i : ℕ) × (n ≡ 2 ^ i) × (3 ≤ i) × (i ≤ 20) × (width n ≡ 2 ^ (53 - i)) × (2 ^ 53 ≡ 2 ^ (53 - i) * n)
bucket-digits n h =
    let j = h.power.0 in
    let i = 3 + j in
    let n-is : n ≡ 2 ^ i = h.power.1 ∙ sym (pow-add 2 3 j) in
    let most : i ≤ 20 = pow_le_back i 20 (subst (λ (x : ℕ). x ≤ 2 ^ 20) n-is h.most) in
    let all : 2 ^ 53 ≡ 2 ^ (53 - i) * n = ap (λ (x : ℕ). 2 ^ x) (sym (add-sub_of_le (le_trans most (lit≤ tt)))) ∙ pow-add 2 i (53 - i) ∙ mul_comm (2 ^ i) (2 ^ (53 - i)) ∙ ap (λ (x : ℕ). 2 ^ (53 - i) * x) (sym n-is) in
    let n_pos : 0 < n = subst (λ (x : ℕ). 0 < x) (sym n-is) (pow_pos i) in
    (i, n-is, more j, most, ap (λ (x : ℕ). x / n) all ∙ mul-div_cancel (2 ^ (53 - i)) n_pos, all)
  where
    more : (j : ℕ) → 3 ≤ 3 + j
    more j = omega arith

-- n buckets of `width n` places make up the circle
pub bucket-width : (n : ℕ) → Buckets n → (0 < width n) × (8 ≤ n) × (2 ^ 53 ≡ n * width n)
bucket-width n h =
    let b = bucket-digits n h in
    let i = b.0 in (
      subst (λ (x : ℕ). 0 < x) (sym b.4) (pow_pos (53 - i)),
      subst (λ (x : ℕ). 8 ≤ x) (sym b.1) (lib.Pow.pow_mono b.2),
      b.5 ∙ mul_comm (2 ^ (53 - i)) n ∙ ap (λ (x : ℕ). n * x) (sym b.4),
    )

pub bucket-pos : (n : ℕ) → Buckets n → 0 < n
bucket-pos n h = let b = bucket-width n h in some n b.1
  where
    some : (n : ℕ) → 8 ≤ n → 0 < n
    some n h = omega arith

-- ---- the floor, and the ceiling, of two fractions that are one number
floor-same : (a b c d : ℕ) → 0 < b → 0 < d → a * d ≡ c * b → a / b ≡ c / d
floor-same a b c d B D h = sym (mul-div-mul_right a b D) ∙ ap (λ (x : ℕ). x / (b * d)) h ∙ ap (λ (x : ℕ). c * b / x) (mul_comm b d) ∙ mul-div-mul_right c d B

ceil-scale : (a c n : ℕ) → 0 < n → 0 < c → (a * n + (c * n - 1)) / (c * n) ≡ (a + (c - 1)) / c
ceil-scale a zero n N C = absurd (lt_irrefl 0 C)
ceil-scale a (suc c) n N C =
    ap (λ (x : ℕ). (a * n + (x - 1)) / x) (suc-mul c n)
    ∙ ap (λ (x : ℕ). x / (c * n + n)) (regroup (a * n) (c * n) n N ∙ ap (λ (x : ℕ). x + (n - 1)) (sym (add-mul a c n)))
    ∙ ap (λ (x : ℕ). ((a + c) * n + (n - 1)) / x) (sym (suc-mul c n) ∙ mul_comm (suc c) n)
    ∙ sym (div-div-eq-div-mul ((a + c) * n + (n - 1)) n (suc c))
    ∙ ap (λ (x : ℕ). x / suc c) (digits_div (a + c) (under n N))
    ∙ ap (λ (x : ℕ). (a + x) / suc c) (pred_of c)
  where
    regroup : (a b n : ℕ) → 0 < n → a + (b + n - 1) ≡ a + b + (n - 1)
    regroup a b n h = omega arith

    under : (n : ℕ) → 0 < n → n - 1 < n
    under n h = omega arith

    pred_of : (c : ℕ) → c ≡ suc c - 1
    pred_of c = omega arith

ceil-same : (a b c d : ℕ) → 0 < b → 0 < d → a * d ≡ c * b → (a + (b - 1)) / b ≡ (c + (d - 1)) / d
ceil-same a b c d B D h =
    sym (ceil-scale a b d D B) ∙ ap (λ (x : ℕ). (x + (b * d - 1)) / (b * d)) h ∙ ap (λ (x : ℕ). (c * b + (x - 1)) / x) (mul_comm b d) ∙ ceil-scale c d b B D

-- ---- buckets by whole numbers
floor-whole : (n w : ℕ) (x : Float) → 0 < w → 2 ^ 53 ≡ n * w → floor_times x n ≡ turns x / w
unfolding floor_times turns
floor-whole n w nan W e = sym (zero-div w)
floor-whole n w (inf s) W e = sym (zero-div w)
floor-whole n w (fin s m d) W e =
    floor-same (m * up d * n) (down d) (m * up d * 2 ^ 53) (down d * w) (down_pos d) (mul-pos (down_pos d) W)
    (ap (λ (x : ℕ). m * up d * n * x) (mul_comm (down d) w) ∙ sym (mul_assoc (m * up d * n) w (down d)) ∙ ap (λ (x : ℕ). x * down d) (mul_assoc (m * up d) n w ∙ ap (λ (x : ℕ). m * up d * x) (sym e)))
    ∙ sym (div-div-eq-div-mul (m * up d * 2 ^ 53) (down d) w)

-- before the remainder: i = floor (n * a) is turns a / width n
pub floor-turns : (n : ℕ) (x : Float) → Buckets n → floor_times x n ≡ turns x / width n
floor-turns n x h = let b = bucket-width n h in floor-whole n (width n) x b.0 b.2

pub floored-whole : (n : ℕ) (x : Float) → Buckets n → floored_bucket x n ≡ floor_of (turns x) n
floored-whole n x h = ap (λ (y : ℕ). y % n) (floor-turns n x h)

ceil-whole : (n w k : ℕ) (x : Float) → 0 < w → 2 ^ 53 ≡ n * w → HasValue x false k (2 ^ 53) → ceil_times x n ≡ (k + (w - 1)) / w
unfolding ceil_times
ceil-whole n w k nan W e v = absurd v
ceil-whole n w k (inf s) W e v = absurd v
ceil-whole n w k (fin s m d) W e v = ceil-same (m * up d * n) (down d) k w (down_pos d) W (mul_assoc (m * up d) n w ∙ ap (λ (x : ℕ). m * up d * x) (sym e) ∙ v.1)

pub ceiled-whole : (n : ℕ) (x : Float) → Buckets n → IsAngle x → ceiled_bucket x n ≡ ceil_of (turns x) n
ceiled-whole n x h a = let b = bucket-width n h in ap (λ (y : ℕ). y % n) (ceil-whole n (width n) (turns x) x b.0 b.2 a.value)

-- ---- 01: "The bucket is read from the angle's own bits, since the product with n is exact": 000 rounds the float
-- product, which has the same floor and ceiling
floor-value : (z : Float) (s : Bool) (a c : ℕ) → 0 < c → HasValue z s a c → floor_times z 1 ≡ a / c
unfolding floor_times
floor-value nan s a c C v = absurd v
floor-value (inf t) s a c C v = absurd v
floor-value (fin t q d) s a c C v = floor-same (q * up d * 1) (down d) a c (down_pos d) C (ap (λ (x : ℕ). x * c) (mul-one (q * up d)) ∙ v.1)

ceil-value : (z : Float) (s : Bool) (a c : ℕ) → 0 < c → HasValue z s a c → ceil_times z 1 ≡ (a + (c - 1)) / c
unfolding ceil_times
ceil-value nan s a c C v = absurd v
ceil-value (inf t) s a c C v = absurd v
ceil-value (fin t q d) s a c C v = ceil-same (q * up d * 1) (down d) a c (down_pos d) C (ap (λ (x : ℕ). x * c) (mul-one (q * up d)) ∙ v.1)

product_value : (n : ℕ) (s : Bool) (m : ℕ) (e : ℤ) → Buckets n → T (fits binary64 (fin s m e))
    → T (valid_angle (fin s m e))
    → HasValue (mul binary64 (fin s m e) (of_int binary64 (pos n))) s (m * up e * n) (down e)
product_value n s m e h fit v =
    let b = bucket-digits n h in
    subst (λ (y : ℕ). HasValue (mul binary64 (fin s m e) (of_int binary64 (pos y))) s (m * up e * y) (down e)) (sym b.1) (product-exact s m e b.0 (le_trans b.3 (lit≤ tt)) fit v)

pub floored-product : (n : ℕ) (x : Float) → Buckets n → T (fits binary64 x) → T (valid_angle x)
    → floor_times (mul binary64 x (of_int binary64 (pos n))) 1 % n ≡ floored_bucket x n
unfolding valid_angle floor_times
floored-product n nan h fit v = absurd v
floored-product n (inf s) h fit v = absurd v
floored-product n (fin s m e) h fit v = ap (λ (y : ℕ). y % n) (floor-value (mul binary64 (fin s m e) (of_int binary64 (pos n))) s (m * up e * n) (down e) (down_pos e) (product_value n s m e h fit v))

pub ceiled-product : (n : ℕ) (x : Float) → Buckets n → T (fits binary64 x) → T (valid_angle x)
    → ceil_times (mul binary64 x (of_int binary64 (pos n))) 1 % n ≡ ceiled_bucket x n
unfolding valid_angle ceil_times
ceiled-product n nan h fit v = absurd v
ceiled-product n (inf s) h fit v = absurd v
ceiled-product n (fin s m e) h fit v = ap (λ (y : ℕ). y % n) (ceil-value (mul binary64 (fin s m e) (of_int binary64 (pos n))) s (m * up e * n) (down e) (down_pos e) (product_value n s m e h fit v))
