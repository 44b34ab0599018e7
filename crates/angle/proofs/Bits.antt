-- A float's bit pattern, and the whole number of a valid angle read from its exponent and mantissa. Assumes nothing.
-- In units of the smallest value, 2 ^ -1074, a number g keeps its 53 leading digits v and drops k: the exponent's field
-- is k + 1 where v has all 53, and the whole number of 2 ^ -53 is g / 2 ^ 1021 = v * 2 / 2 ^ (1022 - k).
use Rattle.std.specs.Prelude.{◌≡◌, refl, ℕ, zero, suc, ◌+◌, ◌-◌, ◌*◌, ◌/◌, ◌%◌, ◌^◌, ◌≤◌, ◌<◌, Bool, true, false, not, cond, ℤ, Float}
use Rattle.std.proofs.Common.{sym, ap, ◌∙◌, subst, inl, inr, zero-le, arith, true≢false, pow-add, pow_pos, pow_mono, shr-shr}
use native.Mathlib.Nat.{le_trans, le_of_eq, le_antisymm, lt_of_lt_of_le, lt_of_le_of_lt, le_refl, le_of_suc-le-suc, eq-or-lt_of_le, mul-one, zero-mul, zero-add, mul_comm, mul_assoc, mul_right_comm, mul-le-mul_right, mul-div_cancel, mul-div-mul_right, div-div-eq-div-mul, div-eq_of_lt, div-one, zero-div, le-div_iff_mul-le, add-sub_of_le, pow-suc}
use lib.Dec.{T, leb→le, eqb→eq, lit≤, lit<}
use Rattle.std.proofs.Math.Pow.{pow-lt}
use Rattle.std.specs.Float.{nan, inf, fin, Format, binary64}
use Rattle.std.specs.Float.Ieee.{prec, low, up, down, size, hid, top, to_bits, of_bits, fits, is_nan, nan_bits}
use Rattle.std.specs.Float.Ieee.Bits.{of_bits-to_bits, nan_bits_is}
use Rattle.std.specs.Float.Ieee.Digits.{size-lt, size-le, size_reaches}
use Rattle.std.specs.Float.Ieee.Fits.{down_pos, kept-lt}
use Rattle.std.specs.Float.Ieee.Nearest.{div_mono}
use Rattle.std.specs.Float.Ieee.Exact.{HasValue}
use Rattle.angle.specs.Angle.{IsAngle, turns, valid_angle}

-- ---- the pattern of a number that is g of the smallest values
bits_are : (f : Format) (s : Bool) (m : ℕ) (e : ℤ) (n : ℕ) → m * up e * 2 ^ low f / down e ≡ n
    → to_bits f (fin s m e) ≡ cond s (top f) 0 + (size n - prec f) * hid f + n / 2 ^ (size n - prec f)
unfolding to_bits
bits_are f s m e n p = ap (λ (x : ℕ). cond s (top f) 0 + (size x - prec f) * hid f + x / 2 ^ (size x - prec f)) p

bits_of : (f : Format) (x : Float) (g : ℕ) → HasValue x false g (2 ^ low f)
    → to_bits f x ≡ (size g - prec f) * hid f + g / 2 ^ (size g - prec f)
bits_of f nan g v = absurd v
bits_of f (inf s) g v = absurd v
bits_of f (fin true m e) g v = absurd (true≢false v.0)
bits_of f (fin false m e) g v =
    bits_are f false m e g (ap (λ (x : ℕ). x / down e) v.1 ∙ mul-div_cancel g (down_pos e))
    ∙ ap (λ (x : ℕ). x + g / 2 ^ (size g - prec f)) (zero-add ((size g - prec f) * hid f))

-- ---- the fields of sign + k * 2 ^ 52 + v
full-field : (s : Bool) (k v : ℕ) → k ≤ 1022 → 4503599627370496 ≤ v → v < 9007199254740992
    → (cond s 9223372036854775808 0 + k * 4503599627370496 + v) / 4503599627370496 % 2048 ≡ suc k
full-field true k v a b c = omega arith
full-field false k v a b c = omega arith

full-digits : (s : Bool) (k v : ℕ) → 4503599627370496 ≤ v → v < 9007199254740992
    → (cond s 9223372036854775808 0 + k * 4503599627370496 + v) % 4503599627370496 + 4503599627370496 ≡ v
full-digits true k v b c = omega arith
full-digits false k v b c = omega arith

short-field : (s : Bool) (v : ℕ) → v < 9007199254740992
    → (cond s 9223372036854775808 0 + 0 * 4503599627370496 + v) / 4503599627370496 % 2048 < 970
short-field true v c = omega arith
short-field false v c = omega arith

-- ---- g / 2 ^ d from the digits that are kept
none_left : (d g : ℕ) → size g ≤ d → g / 2 ^ d ≡ 0
none_left d g h = div-eq_of_lt (lt_of_lt_of_le (size-lt g) (pow_mono h))

some_left : (d g k q : ℕ) → k ≤ suc d → (k ≡ suc d → g ≡ q * 2 ^ suc d) → g / 2 ^ k * 2 / 2 ^ (suc d - k) ≡ g / 2 ^ d
some_left d g k q h whole = elim (eq-or-lt_of_le h) [
  | inl e ↦
      let G = whole e in
      ap (λ (x : ℕ). g / 2 ^ x * 2 / 2 ^ (suc d - x)) e
      ∙ ap (λ (x : ℕ). g / 2 ^ suc d * 2 / 2 ^ x) (self d)
      ∙ div-one (g / 2 ^ suc d * 2)
      ∙ ap (λ (x : ℕ). x / 2 ^ suc d * 2) G
      ∙ ap (λ (x : ℕ). x * 2) (mul-div_cancel q (pow_pos (suc d)))
      ∙ sym (ap (λ (x : ℕ). x / 2 ^ d) (G ∙ ap (λ (x : ℕ). q * x) (pow-suc 2 d ∙ mul_comm (2 ^ d) 2) ∙ sym (mul_assoc q 2 (2 ^ d))) ∙ mul-div_cancel (q * 2) (pow_pos d))
  | inr l ↦
      let k-le = le_of_suc-le-suc l in
      ap (λ (x : ℕ). g / 2 ^ k * 2 / 2 ^ x) (over d k k-le)
      ∙ ap (λ (x : ℕ). g / 2 ^ k * 2 / x) (pow-suc 2 (d - k))
      ∙ mul-div-mul_right (g / 2 ^ k) (2 ^ (d - k)) (lit< tt)
      ∙ shr-shr g k (d - k)
      ∙ ap (λ (x : ℕ). g / 2 ^ x) (add-sub_of_le k-le)
]
  where
    self : (d : ℕ) → suc d - suc d ≡ 0
    self d = omega arith

    over : (d k : ℕ) → k ≤ d → suc d - k ≡ suc (d - k)
    over d k h = omega arith

-- ---- what the code reads from the pattern b: the whole number t
abbrev pub Read : ℕ → ℕ → Type 0
Read b t = (b / 4503599627370496 % 2048 < 970 → 0 ≡ t)
    × (970 ≤ b / 4503599627370496 % 2048
    → (b / 4503599627370496 % 2048 ≤ 1023)
    × ((b % 4503599627370496 + 4503599627370496) * 2 / 2 ^ (1023 - b / 4503599627370496 % 2048) ≡ t))

clash : (n : ℕ) → n < 970 → 970 ≤ n → ⊥
clash n h k = omega arith

read_short : (s : Bool) (g : ℕ) → size g ≤ 53 → g < 2 ^ 53 → Read (cond s 9223372036854775808 0 + 0 * 4503599627370496 + g) (g / 2 ^ 1021)
read_short s g z h =
    let small = short-field s g h in
    ((λ l. sym (none_left 1021 g (le_trans z (lit≤ tt)))), (λ l. absurd (clash _ small l)))

read-full : (s : Bool) (g k v : ℕ) → v ≡ g / 2 ^ k → size g ≡ k + 53 → k ≤ 1022 → (k ≡ 1022 → g ≡ 2 ^ 52 * 2 ^ 1022)
    → 2 ^ 52 ≤ v → v < 2 ^ 53 → Read (cond s 9223372036854775808 0 + k * 4503599627370496 + v) (g / 2 ^ 1021)
read-full s g k v v-is z k-le whole lo hi =
    let b = cond s 9223372036854775808 0 + k * 4503599627370496 + v in
    let field : b / 4503599627370496 % 2048 ≡ suc k = full-field s k v k-le lo hi in (
      λ l. sym (none_left 1021 g (le_trans (le_of_eq z) (few k (subst (λ (x : ℕ). x < 970) field l)))),
      λ l. (
        le_trans (le_of_eq field) (next k k-le),
        ap (λ (x : ℕ). x * 2 / 2 ^ (1023 - b / 4503599627370496 % 2048)) (full-digits s k v lo hi ∙ v-is)
            ∙ ap (λ (x : ℕ). g / 2 ^ k * 2 / 2 ^ x) (ap (λ (x : ℕ). 1023 - x) field ∙ less k)
            ∙ some_left 1021 g k (2 ^ 52) k-le whole,
      ),
    )
  where
    few : (k : ℕ) → suc k < 970 → k + 53 ≤ 1021
    few k h = omega arith

    next : (k : ℕ) → k ≤ 1022 → suc k ≤ 1023
    next k h = omega arith

    less : (k : ℕ) → 1023 - suc k ≡ 1022 - k
    less k = omega arith

read : (s : Bool) (g : ℕ) → g ≤ 2 ^ 1074
    → Read (cond s 9223372036854775808 0 + (size g - 53) * 4503599627370496 + g / 2 ^ (size g - 53)) (g / 2 ^ 1021)
read s g h = go (size g - 53) refl
  where
    most : size g ≤ 1075
    most = size-le g 1075 (lt_of_le_of_lt h (pow-lt (le_refl 1075)))

    none : (z : ℕ) → z - 53 ≡ 0 → z ≤ 53
    none z e = omega arith

    some : (z k : ℕ) → z - 53 ≡ suc k → z ≡ suc k + 53
    some z k e = omega arith

    under : (z k : ℕ) → z ≤ 1075 → z ≡ suc k + 53 → suc k ≤ 1022
    under z k h e = omega arith

    reach : (z k : ℕ) → z ≡ suc k + 53 → 52 + suc k < z
    reach z k e = omega arith

    last : (z k : ℕ) → z ≡ suc k + 53 → suc k ≡ 1022 → 1074 < z
    last z k e f = omega arith

    go : (k : ℕ) → size g - 53 ≡ k → Read (cond s 9223372036854775808 0 + k * 4503599627370496 + g / 2 ^ k) (g / 2 ^ 1021)
    go zero e =
        let z = none (size g) e in
        subst (λ (x : ℕ). Read (cond s 9223372036854775808 0 + 0 * 4503599627370496 + x) (g / 2 ^ 1021)) (sym (div-one g)) (read_short s g z (lt_of_lt_of_le (size-lt g) (pow_mono z)))
    go (suc k) e =
        let z = some (size g) k e in
        read-full s g (suc k) (g / 2 ^ suc k) refl z (under (size g) k most z)
        (λ f. le_antisymm h (size_reaches g 1074 (last (size g) k z f)) ∙ pow-add 2 52 1022)
        ((le-div_iff_mul-le (pow_pos (suc k))).1 (le_trans (le_of_eq (sym (pow-add 2 52 (suc k)))) (size_reaches g (52 + suc k) (reach (size g) k z))))
        (subst (λ (x : ℕ). g / 2 ^ x < 2 ^ 53) e (kept-lt 53 g))

-- ---- a valid angle
deeper : (a c p d : ℕ) → a * 2 ^ (p + d) / c / 2 ^ d ≡ a * 2 ^ p / c
deeper a c p d =
    div-div-eq-div-mul (a * 2 ^ (p + d)) c (2 ^ d)
    ∙ ap (λ (x : ℕ). x / (c * 2 ^ d)) (ap (λ (x : ℕ). a * x) (pow-add 2 p d) ∙ sym (mul_assoc a (2 ^ p) (2 ^ d)))
    ∙ mul-div-mul_right (a * 2 ^ p) c (pow_pos d)

at_most_one : (a c u : ℕ) → 0 < c → a ≤ c → a * u / c ≤ u
at_most_one a c u C h = le_trans (div_mono (a * u) c u 1 C (lit< tt) (le_trans (le_of_eq (mul-one (a * u))) (le_trans (mul-le-mul_right u h) (le_of_eq (mul_comm c u))))) (le_of_eq (div-one u))

nothing : (m : ℕ) (e : ℤ) (u : ℕ) → m ≡ 0 → m * up e * u / down e ≡ 0
nothing m e u h = ap (λ (x : ℕ). x * up e * u / down e) h ∙ ap (λ (x : ℕ). x * u / down e) (zero-mul (up e)) ∙ ap (λ (x : ℕ). x / down e) (zero-mul u) ∙ zero-div (down e)

-- its size is at most 1
valid-size : (s : Bool) (m : ℕ) (e : ℤ) (u : ℕ) → T (valid_angle (fin s m e)) → m * up e * u / down e ≤ u
unfolding valid_angle
valid-size false m e u h = at_most_one (m * up e) (down e) u (down_pos e) (leb→le (m * up e) (down e) h)
valid-size true m e u h = le_trans (le_of_eq (nothing m e u (eqb→eq m 0 h))) zero-le

pub valid-small : (x : Float) → T (valid_angle x) → turns x ≤ 2 ^ 53
unfolding turns valid_angle
valid-small nan h = absurd h
valid-small (inf s) h = absurd h
valid-small (fin s m e) h = valid-size s m e (2 ^ 53) h

pub valid-no-nan : (x : Float) → T (valid_angle x) → T (not (is_nan x))
unfolding is_nan valid_angle
valid-no-nan nan h = absurd h
valid-no-nan (inf s) h = tt
valid-no-nan (fin s m e) h = tt

pub valid-read : (x : Float) → T (valid_angle x) → Read (to_bits binary64 x) (turns x)
unfolding turns
valid-read nan h = unfold valid_angle in absurd h
valid-read (inf s) h = unfold valid_angle in absurd h
valid-read (fin s m e) h =
    let g = m * up e * 2 ^ 1074 / down e in
    subst (λ (b : ℕ). Read b (m * up e * 2 ^ 53 / down e)) (sym (bits_are binary64 s m e g refl))
    (subst (λ (t : ℕ). Read (cond s 9223372036854775808 0 + (size g - 53) * 4503599627370496 + g / 2 ^ (size g - 53)) t) (deeper (m * up e) (down e) 53 1021) (read s g (valid-size s m e (2 ^ 1074) h)))

-- ---- an angle is valid, no NaN, and comes back from its bits
pub angle-valid : (x : Float) → IsAngle x → T (valid_angle x)
angle-valid x h = go x (turns x) h.value h.small
  where
    go : (x : Float) (k : ℕ) → HasValue x false k (2 ^ 53) → k ≤ 2 ^ 53 → T (valid_angle x)
    go nan k v l = absurd v
    go (inf s) k v l = absurd v
    go (fin true m e) k v l = absurd (true≢false v.0)
    go (fin false m e) k v l = unfold valid_angle in lib.Dec.le→leb (m * up e) (down e) (native.Mathlib.Nat.le_of_mul-le-mul_right (le_trans (le_of_eq v.1) (le_trans (mul-le-mul_right (down e) l) (le_of_eq (mul_comm (2 ^ 53) (down e))))) (pow_pos 53))

pub angle-no-nan : (x : Float) → IsAngle x → T (not (is_nan x))
angle-no-nan x h = valid-no-nan x (angle-valid x h)

pub angle-bits : (x : Float) → IsAngle x → of_bits binary64 (to_bits binary64 x) ≡ x
angle-bits x h = of_bits-to_bits binary64 x h.held

pub bits-no-nan : (b : ℕ) → IsAngle (of_bits binary64 b) → T (not (nan_bits binary64 b))
bits-no-nan b h = subst (λ (k : Bool). T (not k)) (sym (nan_bits_is binary64 b)) (angle-no-nan (of_bits binary64 b) h)

-- a row of zeros holds angles
pub zero_bits : IsAngle (of_bits binary64 0)
unfolding of_bits turns fits
zero_bits = record { held = tt; value = (refl, refl); small = zero-le }

-- ---- an angle is determined by its whole number
finer : (x : Float) (k p w : ℕ) → HasValue x false k p → HasValue x false (k * w) (p * w)
finer nan k p w v = v
finer (inf s) k p w v = v
finer (fin s m e) k p w v = (v.0, sym (mul_assoc (m * up e) p w) ∙ ap (λ (x : ℕ). x * w) v.1 ∙ mul_right_comm k (down e) w)

pub angle-unique : (x y : Float) → IsAngle x → IsAngle y → turns x ≡ turns y → x ≡ y
angle-unique x y h k e =
    let b : to_bits binary64 x ≡ to_bits binary64 y =
    bits_of binary64 x (turns x * 2 ^ 1021) (finer x (turns x) (2 ^ 53) (2 ^ 1021) h.value)
    ∙ ap (λ (n : ℕ). (size (n * 2 ^ 1021) - 53) * 4503599627370496 + n * 2 ^ 1021 / 2 ^ (size (n * 2 ^ 1021) - 53)) e
    ∙ sym (bits_of binary64 y (turns y * 2 ^ 1021) (finer y (turns y) (2 ^ 53) (2 ^ 1021) k.value)) in
    sym (angle-bits x h) ∙ ap (of_bits binary64) b ∙ angle-bits y k
