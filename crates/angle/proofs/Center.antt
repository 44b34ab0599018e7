-- The centre's tests: the range by two comparisons, and a whole number against a float by `==`; and that a vertex that
-- is not at a valid centre has an angle. Assumes nothing.
use Rattle.std.specs.Prelude.{◌≡◌, refl, ◌⊎◌, ℕ, zero, suc, ◌+◌, ◌*◌, ◌^◌, ◌≤◌, ◌<◌, Bool, true, false, not, ◌&&◌, ◌||◌, ℤ, pos, negsuc, T, ltb, leb, eqb, Float}
use Rattle.std.proofs.Common.{sym, ap, ◌∙◌, subst, inl, inr, le_trans, le_of_eq, le_of_lt, lt_of_lt_of_le, mul-one, zero-mul, mul-pos, mul_right_comm, mul-le-mul_right, le-add_left, le-add_right, eq-or-lt_of_le, arith, pow_mono, ltb→lt, lt→ltb, leb→le, le→leb, eqb→eq, lit≤, lit<}
use Rattle.std.specs.Bool.{beq}
use Rattle.std.specs.Int.Signed.{mag}
use Rattle.std.proofs.Math.Dec.{eqb-suc-zero}
use Rattle.std.specs.Float.{nan, inf, fin, binary64}
use Rattle.std.specs.Float.Ieee.{up, down, le, eq, level, fits, of_int, round}
use Rattle.std.specs.Float.Ieee.Bits.{is_true}
use Rattle.std.specs.Float.Ieee.Fits.{down_pos, and_l, and_r, and_i, eq→eqb, of_int-fits}
use Rattle.std.specs.Float.Ieee.Exact.{HasValue}
use Rattle.std.specs.Float.Ieee.Back.{round_whole}
use Rattle.angle.specs.Angle.{bounded, valid_center, is_number, at_center, Apart, IsAngle, angle_about}
use Rattle.angle.proofs.Laws.{pseudo-is-angle}
use Rattle.algebra.proofs.Test.{test-ext}
use Rattle.angle.proofs.Values.{le-at, eq-at}

-- 2 ^ 24, and -2 ^ 24
abbrev pub most : Float
most = fin false 1 (pos 24)

abbrev pub least : Float
least = fin true 1 (pos 24)

or_split : (a b : Bool) → T (a || b) → T a ⊎ T b
or_split true b t = inl tt
or_split false b t = inr t

pub or_l : (a b : Bool) → T a → T (a || b)
or_l true b t = tt
or_l false b t = absurd t

pub or_r : (a b : Bool) → T b → T (a || b)
or_r true b t = tt
or_r false b t = t

pub yes_and : (a b c : Bool) → a ≡ true → b ≡ c → (a && b) ≡ c
yes_and a b c p q = ap (λ (x : Bool). x && b) p ∙ q

pub and_yes : (a b c : Bool) → a ≡ c → b ≡ true → (a && b) ≡ c
and_yes true b c p q = q ∙ p
and_yes false b c p q = p

-- X ≤ A, as two negative values are compared
flipped : (X A B : ℕ) → A ≡ B → (ltb (X * 1) A || (eqb A (X * 1) && true)) ≡ leb X B
flipped X A B e =
    test-ext (ltb (X * 1) A || (eqb A (X * 1) && true)) (leb X B)
    (λ t. le→leb X B (elim (or_split (ltb (X * 1) A) (eqb A (X * 1) && true) t) [
      | inl u ↦ le_trans (le_of_eq (sym (mul-one X))) (le_trans (le_of_lt (ltb→lt (X * 1) A u)) (le_of_eq e))
      | inr u ↦ le_trans (le_of_eq (sym (mul-one X) ∙ sym (eqb→eq A (X * 1) (and_l (eqb A (X * 1)) true u)))) (le_of_eq e)
    ]))
    (λ t. elim (eq-or-lt_of_le (leb→le X B t)) [
      | inl p ↦ or_r (ltb (X * 1) A) (eqb A (X * 1) && true) (and_i (eqb A (X * 1)) true (eq→eqb (e ∙ sym p ∙ sym (mul-one X))) tt)
      | inr l ↦ or_l (ltb (X * 1) A) (eqb A (X * 1) && true) (lt→ltb (X * 1) A (le_trans (le_of_eq (ap suc (mul-one X))) (le_trans l (le_of_eq (sym e)))))
    ])

some : (a b : ℕ) → 0 < b → (c : Bool) → (ltb 0 (a + b) || c) ≡ true
some a b h c = is_true (ltb 0 (a + b) || c) (or_l (ltb 0 (a + b)) c (lt→ltb 0 (a + b) (lt_of_lt_of_le h (le-add_left b a))))

some-l : (a b : ℕ) → 0 < a → (c : Bool) → (ltb 0 (a + b) || c) ≡ true
some-l a b h c = is_true (ltb 0 (a + b) || c) (or_l (ltb 0 (a + b)) c (lt→ltb 0 (a + b) (lt_of_lt_of_le h (le-add_right a b))))

big : (e : ℤ) → 0 < 16777216 * down e
big e = mul-pos (lit< tt) (down_pos e)

pub bounded-is : (x : Float) → (le least x && le x most) ≡ bounded 24 x
unfolding le bounded
bounded-is nan = refl
bounded-is (inf true) = refl
bounded-is (inf false) = refl
bounded-is (fin true m e) =
    and_yes (le least (fin true m e)) (le (fin true m e) most) (bounded 24 (fin true m e)) (flipped (m * up e) (16777216 * down e) (16777216 * down e) refl)
    (some (m * up e * 1) (16777216 * down e) (big e) (eqb (m * up e * 1) (16777216 * down e) && eqb (m * up e * 1) 0))
bounded-is (fin false m e) =
    yes_and (le least (fin false m e)) (le (fin false m e) most) (bounded 24 (fin false m e))
    (some-l (16777216 * down e) (m * up e * 1) (big e) (eqb (16777216 * down e) (m * up e * 1) && eqb (16777216 * down e) 0))
    (le-at (fin false m e) most (m * up e) (2 ^ 24 * down e) (down e) (down_pos e) (refl, refl) (refl, sym (mul-one (2 ^ 24 * down e))))

-- a wider range
pub bounded-mono : (i j : ℕ) (x : Float) → i ≤ j → T (bounded i x) → T (bounded j x)
unfolding bounded
bounded-mono i j nan h t = t
bounded-mono i j (inf s) h t = t
bounded-mono i j (fin s m e) h t = le→leb (m * up e) (2 ^ j * down e) (le_trans (leb→le (m * up e) (2 ^ i * down e) t) (mul-le-mul_right (down e) (pow_mono h)))

-- ---- a whole number of 32 signed bits, as a float
bounded-value : (x : Float) (s : Bool) (n i : ℕ) → HasValue x s n 1 → n ≤ 2 ^ i → T (bounded i x)
unfolding bounded
bounded-value nan s n i v h = absurd v
bounded-value (inf t) s n i v h = absurd v
bounded-value (fin t m e) s n i v h = le→leb (m * up e) (2 ^ i * down e) (le_trans (le_of_eq (sym (mul-one (m * up e)) ∙ v.1)) (mul-le-mul_right (down e) h))

pub bounded-int : (z : ℤ) → mag z < 2 ^ 31 → T (bounded 31 (of_int binary64 z))
unfolding of_int
bounded-int (pos n) h = bounded-value (round binary64 false n 1) false n 31 (round_whole binary64 false n (le_trans (le_of_lt h) (lit≤ tt))) (le_of_lt h)
bounded-int (negsuc n) h = bounded-value (round binary64 true (suc n) 1) true (suc n) 31 (round_whole binary64 true (suc n) (le_trans h (lit≤ tt))) h

-- ---- a whole number and a float are one number exactly where `==` says so
finer : (x : Float) (s : Bool) (k w : ℕ) → HasValue x s k 1 → HasValue x s (k * w) w
finer nan s k w v = v
finer (inf t) s k w v = v
finer (fin t m e) s k w v = (v.0, ap (λ (z : ℕ). z * w) (sym (mul-one (m * up e)) ∙ v.1) ∙ mul_right_comm k (down e) w)

eq-whole : (x : Float) (s : Bool) (n : ℕ) (t : Bool) (m : ℕ) (e : ℤ) → HasValue x s n 1
    → eq x (fin t m e) ≡ level s (n * down e) t (m * up e)
eq-whole x s n t m e v = eq-at x (fin t m e) s t (n * down e) (m * up e) (down e) (down_pos e) (finer x s n (down e) v) (refl, refl)

eq-none : (x : Float) (s : Bool) (n : ℕ) → HasValue x s n 1 → (eq x nan ≡ false) × ((t : Bool) → eq x (inf t) ≡ false)
unfolding eq
eq-none nan s n v = absurd v
eq-none (inf t) s n v = absurd v
eq-none (fin t m e) s n v = (refl, λ u. refl)

zero-times : (n d : ℕ) → 0 < d → eqb (n * d) 0 ≡ eqb n 0
zero-times n d h = test-ext (eqb (n * d) 0) (eqb n 0) (λ t. eq→eqb (left n (eqb→eq (n * d) 0 t))) (λ t. eq→eqb (ap (λ (x : ℕ). x * d) (eqb→eq n 0 t) ∙ zero-mul d))
  where
    none : (a : ℕ) → a ≡ 0 → 0 < a → ⊥
    none a e l = omega arith

    some-suc : (n : ℕ) → 0 < suc n
    some-suc n = omega arith

    left : (n : ℕ) → n * d ≡ 0 → n ≡ 0
    left zero e = refl
    left (suc n) e = absurd (none (suc n * d) e (mul-pos (some-suc n) h))

pub number_is : (z : ℤ) (x : Float) → mag z < 2 ^ 31 → eq (of_int binary64 z) x ≡ is_number z x
unfolding of_int is_number
number_is (pos n) nan h = (eq-none (round binary64 false n 1) false n (round_whole binary64 false n (le_trans (le_of_lt h) (lit≤ tt)))).0
number_is (pos n) (inf t) h = (eq-none (round binary64 false n 1) false n (round_whole binary64 false n (le_trans (le_of_lt h) (lit≤ tt)))).1 t
number_is (pos n) (fin t m e) h =
    eq-whole (round binary64 false n 1) false n t m e (round_whole binary64 false n (le_trans (le_of_lt h) (lit≤ tt)))
    ∙ ap (λ (k : Bool). eqb (n * down e) (m * up e) && (k || eqb (n * down e) 0)) (like t)
    ∙ ap (λ (k : Bool). eqb (n * down e) (m * up e) && (not t || k)) (zero-times n (down e) (down_pos e))
  where
    like : (t : Bool) → beq false t ≡ not t
    like true = refl
    like false = refl
number_is (negsuc n) nan h = (eq-none (round binary64 true (suc n) 1) true (suc n) (round_whole binary64 true (suc n) (le_trans h (lit≤ tt)))).0
number_is (negsuc n) (inf t) h = (eq-none (round binary64 true (suc n) 1) true (suc n) (round_whole binary64 true (suc n) (le_trans h (lit≤ tt)))).1 t
number_is (negsuc n) (fin t m e) h =
    eq-whole (round binary64 true (suc n) 1) true (suc n) t m e (round_whole binary64 true (suc n) (le_trans h (lit≤ tt)))
    ∙ ap (λ (k : Bool). eqb (suc n * down e) (m * up e) && (beq true t || k)) (zero-times (suc n) (down e) (down_pos e) ∙ eqb-suc-zero n)
    ∙ ap (λ (k : Bool). eqb (suc n * down e) (m * up e) && k) (like t)
  where
    like : (t : Bool) → (beq true t || false) ≡ t
    like true = refl
    like false = refl

pub center-is : (x y : ℤ) (cx cy : Float) → mag x < 2 ^ 31 → mag y < 2 ^ 31
    → (eq (of_int binary64 x) cx && eq (of_int binary64 y) cy) ≡ at_center x y cx cy
unfolding at_center
center-is x y cx cy hx hy = ap (λ (k : Bool). k && eq (of_int binary64 y) cy) (number_is x cx hx) ∙ ap (λ (k : Bool). is_number x cx && k) (number_is y cy hy)

-- ---- a vertex that is not at a valid centre
pub about-apart : (x y : ℤ) (cx cy : Float) → mag x < 2 ^ 31 → mag y < 2 ^ 31 → T (valid_center cx cy)
    → T (not (at_center x y cx cy)) → Apart (of_int binary64 x) (of_int binary64 y) cx cy
unfolding valid_center
about-apart x y cx cy hx hy v a =
    record {
      bounded-ax = bounded-int x hx;
      bounded-ay = bounded-int y hy;
      bounded-cx = bounded-mono 24 31 cx (lit≤ tt) (and_l (bounded 24 cx) (bounded 24 cy) v);
      bounded-cy = bounded-mono 24 31 cy (lit≤ tt) (and_r (bounded 24 cx) (bounded 24 cy) v);
      apart = subst (λ (k : Bool). T (not k)) (sym (center-is x y cx cy hx hy)) a;
    }

-- 01: "every angle is a whole number of 2^-53 from 0.0 to 1.0"
pub about-is-angle : (x y : ℤ) (cx cy : Float) → mag x < 2 ^ 31 → mag y < 2 ^ 31 → T (fits binary64 cx)
    → T (fits binary64 cy) → T (valid_center cx cy) → T (not (at_center x y cx cy)) → IsAngle (angle_about x y cx cy)
unfolding angle_about
about-is-angle x y cx cy hx hy fx fy v a =
    pseudo-is-angle (of_int binary64 x) (of_int binary64 y) cx cy (of_int-fits binary64 x) (of_int-fits binary64 y) fx fy (about-apart x y cx cy hx hy v a)
