-- Valid angles, which are any floats from 0.0 to 1.0, not only whole numbers of 2 ^ -53: the test by two comparisons,
-- and the order against an angle, which goes by the number rounded down.
-- For a whole k, k ≤ a / c exactly where k ≤ floor (a / c), and a / c < k exactly where floor (a / c) < k. Assumes nothing.
use Rattle.std.specs.Prelude.{◌≡◌, ℕ, zero, suc, ◌+◌, ◌*◌, ◌/◌, ◌^◌, ◌<◌, Bool, true, false, ◌&&◌, ◌||◌, ℤ}
use Rattle.std.proofs.Math.Path.{refl}
use Rattle.std.proofs.Common.{sym, ap, ◌∙◌, zero-le, lt_of_lt_of_le, mul-one, one-mul, zero-mul, zero-add, mul_assoc, mul_right_comm, mul-pos, le-add_left, le-div_iff_mul-le, div-lt_iff_lt-mul, arith, true≢false, pow_pos}
use lib.Dec.{T, ltb, leb, eqb, ltb→lt, lt→ltb, leb→le, le→leb, eqb→eq, lit<}
use lib.Ieee.{Float, nan, inf, fin, up, down, lt, le, eq}
use lib.Ieee.Bits.{is_true}
use Rattle.std.specs.Float.Ieee.Fits.{up_pos, down_pos, eq→eqb}
use Rattle.std.specs.Float.Ieee.Exact.{HasValue}
use Rattle.angle.specs.Angle.{zero64, one64, IsAngle, turns, valid_angle}
use Rattle.algebra.proofs.Test.{test-ext}
use Rattle.angle.proofs.Values.{lt_at, le-at, eq-at}
use Rattle.angle.proofs.Center.{or_l, yes_and, and_yes}

-- ---- -0.0 compares as 0.0
zero-product : (m : ℕ) (e : ℤ) → m * up e ≡ 0 → m ≡ 0
zero-product zero e h = refl
zero-product (suc m) e h = absurd (none (suc m * up e) h (mul-pos (some-suc m) (up_pos e)))
  where
    some-suc : (n : ℕ) → 0 < suc n
    some-suc n = omega arith

    none : (a : ℕ) → a ≡ 0 → 0 < a → ⊥
    none a e l = omega arith

negative-zero : (m : ℕ) (e : ℤ) → eq zero64 (fin true m e) ≡ eqb m 0
negative-zero m e =
    eq-at zero64 (fin true m e) false true 0 (m * up e) (down e) (down_pos e) (refl, zero-mul (down e)) (refl, refl)
    ∙ test-ext (eqb 0 (m * up e) && true) (eqb m 0) (λ t. eq→eqb (zero-product m e (sym (eqb→eq 0 (m * up e) (first (eqb 0 (m * up e)) t)))))
    (λ t. second (eqb 0 (m * up e)) (eq→eqb (sym (ap (λ (x : ℕ). x * up e) (eqb→eq m 0 t) ∙ zero-mul (up e)))))
  where
    first : (b : Bool) → T (b && true) → T b
    first true t = tt
    first false t = t

    second : (b : Bool) → T b → T (b && true)
    second true t = tt
    second false t = t

-- ---- the test
pub valid-is : (x : Float) → (le zero64 x && le x one64) ≡ valid_angle x
unfolding le valid_angle
valid-is nan = refl
valid-is (inf true) = refl
valid-is (inf false) = refl
valid-is (fin false m e) =
    yes_and (le zero64 (fin false m e)) (le (fin false m e) one64) (leb (m * up e) (down e))
    (le-at zero64 (fin false m e) 0 (m * up e) (down e) (down_pos e) (refl, zero-mul (down e)) (refl, refl) ∙ is_true (leb 0 (m * up e)) (le→leb 0 (m * up e) zero-le))
    (le-at (fin false m e) one64 (m * up e) (down e) (down e) (down_pos e) (refl, refl) (refl, one-mul (down e) ∙ sym (mul-one (down e))))
valid-is (fin true m e) =
    and_yes (le zero64 (fin true m e)) (le (fin true m e) one64) (eqb m 0) (negative-zero m e)
    (is_true (le (fin true m e) one64)
    (or_l (ltb 0 (m * up e * 1 + 1 * down e)) (eq (fin true m e) one64) (lt→ltb 0 (m * up e * 1 + 1 * down e) (lt_of_lt_of_le (mul-pos (lit< tt) (down_pos e)) (le-add_left (1 * down e) (m * up e * 1))))))

-- ---- the order
positive-value : (m : ℕ) (e : ℤ) → HasValue (fin false m e) false (m * up e * 2 ^ 53) (2 ^ 53 * down e)
positive-value m e = (refl, sym (mul_assoc (m * up e) (2 ^ 53) (down e)))

angle-value : (y : Float) (k d : ℕ) → HasValue y false k (2 ^ 53) → HasValue y false (k * d) (2 ^ 53 * d)
angle-value nan k d v = v
angle-value (inf s) k d v = v
angle-value (fin s m e) k d v = (v.0, sym (mul_assoc (m * up e) (2 ^ 53) d) ∙ ap (λ (x : ℕ). x * d) v.1 ∙ mul_right_comm k (down e) d)

lt-floor : (a c k : ℕ) → 0 < c → ltb a (k * c) ≡ ltb (a / c) k
lt-floor a c k C = test-ext (ltb a (k * c)) (ltb (a / c) k) (λ t. lt→ltb (a / c) k ((div-lt_iff_lt-mul C).1 (ltb→lt a (k * c) t))) (λ t. lt→ltb a (k * c) ((div-lt_iff_lt-mul C).0 (ltb→lt (a / c) k t)))

le-floor : (a c k : ℕ) → 0 < c → leb (k * c) a ≡ leb k (a / c)
le-floor a c k C = test-ext (leb (k * c) a) (leb k (a / c)) (λ t. le→leb k (a / c) ((le-div_iff_mul-le C).1 (leb→le (k * c) a t))) (λ t. le→leb (k * c) a ((le-div_iff_mul-le C).0 (leb→le k (a / c) t)))

lt-positive : (m : ℕ) (e : ℤ) (y : Float) (k : ℕ) → HasValue y false k (2 ^ 53) → lt (fin false m e) y ≡ ltb (m * up e * 2 ^ 53 / down e) k
lt-positive m e y k v =
    lt_at (fin false m e) y (m * up e * 2 ^ 53) (k * down e) (2 ^ 53 * down e) (mul-pos (pow_pos 53) (down_pos e)) (positive-value m e) (angle-value y k (down e) v)
    ∙ lt-floor (m * up e * 2 ^ 53) (down e) k (down_pos e)

le-positive : (m : ℕ) (e : ℤ) (y : Float) (k : ℕ) → HasValue y false k (2 ^ 53) → le y (fin false m e) ≡ leb k (m * up e * 2 ^ 53 / down e)
le-positive m e y k v =
    le-at y (fin false m e) (k * down e) (m * up e * 2 ^ 53) (2 ^ 53 * down e) (mul-pos (pow_pos 53) (down_pos e)) (angle-value y k (down e) v) (positive-value m e)
    ∙ le-floor (m * up e * 2 ^ 53) (down e) k (down_pos e)

-- with -0.0 on a side
lt-zero : (e : ℤ) (y : Float) (k : ℕ) → HasValue y false k (2 ^ 53) → lt (fin true 0 e) y ≡ lt (fin false 0 e) y
unfolding lt
lt-zero e nan k v = refl
lt-zero e (inf s) k v = refl
lt-zero e (fin true n d) k v = absurd (true≢false v.0)
lt-zero e (fin false n d) k v = go (0 * up e * down d) (n * up d * down e) (ap (λ (x : ℕ). x * down d) (zero-mul (up e)) ∙ zero-mul (down d))
  where
    go : (a b : ℕ) → a ≡ 0 → ltb 0 (a + b) ≡ ltb a b
    go a b z = ap (λ (x : ℕ). ltb 0 (x + b)) z ∙ ap (λ (x : ℕ). ltb 0 x) (zero-add b) ∙ ap (λ (x : ℕ). ltb x b) (sym z)

le-zero : (e : ℤ) (y : Float) (k : ℕ) → HasValue y false k (2 ^ 53) → le y (fin true 0 e) ≡ le y (fin false 0 e)
unfolding le lt eq
le-zero e nan k v = refl
le-zero e (inf true) k v = refl
le-zero e (inf false) k v = refl
le-zero e (fin true n d) k v = absurd (true≢false v.0)
le-zero e (fin false n d) k v = go (n * up d * down e) (0 * up e * down d) (ap (λ (x : ℕ). x * down d) (zero-mul (up e)) ∙ zero-mul (down d))
  where
    both : (b : Bool) → (b && b) ≡ (b && true)
    both true = refl
    both false = refl

    go : (b a : ℕ) → a ≡ 0 → (eqb b a && (false || eqb b 0)) ≡ (ltb b a || (eqb b a && true))
    go b a z =
        ap (λ (x : ℕ). eqb b x && eqb b 0) z
        ∙ both (eqb b 0)
        ∙ ap (λ (x : Bool). x || (eqb b 0 && true)) (sym (lib.Ieee.Bits.is_false (ltb b 0) (lib.Dec.not_T (ltb b 0) (λ t. lib.Dec.T_not true (below b (ltb→lt b 0 t)) tt))))
        ∙ ap (λ (x : ℕ). ltb b x || (eqb b x && true)) (sym z)
      where
        below : (b : ℕ) → b < 0 → T false
        below b h = omega arith

nought : (m : ℕ) (e : ℤ) → m ≡ 0 → fin true m e ≡ fin true 0 e
nought m e h = ap (λ (x : ℕ). fin true x e) h

-- a valid x and an angle y
pub valid-lt : (x y : Float) → T (valid_angle x) → IsAngle y → lt x y ≡ ltb (turns x) (turns y)
unfolding valid_angle
valid-lt nan y h k = absurd h
valid-lt (inf s) y h k = absurd h
valid-lt (fin false m e) y h k = lt-positive m e y (turns y) k.value ∙ unfold turns in refl
valid-lt (fin true m e) y h k =
    let z = eqb→eq m 0 h in
    ap (λ (x : Float). lt x y) (nought m e z) ∙ lt-zero e y (turns y) k.value ∙ lt-positive 0 e y (turns y) k.value ∙ ap (λ (x : ℕ). ltb (x * up e * 2 ^ 53 / down e) (turns y)) (sym z) ∙ unfold turns in refl

pub valid-le : (y x : Float) → IsAngle y → T (valid_angle x) → le y x ≡ leb (turns y) (turns x)
unfolding valid_angle
valid-le y nan k h = absurd h
valid-le y (inf s) k h = absurd h
valid-le y (fin false m e) k h = le-positive m e y (turns y) k.value ∙ unfold turns in refl
valid-le y (fin true m e) k h =
    let z = eqb→eq m 0 h in
    ap (λ (x : Float). le y x) (nought m e z) ∙ le-zero e y (turns y) k.value ∙ le-positive 0 e y (turns y) k.value ∙ ap (λ (x : ℕ). leb (turns y) (x * up e * 2 ^ 53 / down e)) (sym z) ∙ unfold turns in refl
