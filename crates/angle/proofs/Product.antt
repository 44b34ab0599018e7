-- A valid angle times a power of two, as floats, is the exact product. 01: "the product with n is exact". Assumes nothing.
use Rattle.std.specs.Prelude.{◌≡◌, ℕ, zero, suc, ◌+◌, ◌-◌, ◌*◌, ◌%◌, ◌^◌, ◌≤◌, ◌<◌, Bool, true, false, ◌&&◌, ℤ, pos, negsuc, T, eqb, ltb, leb, Float}
use Rattle.std.proofs.Common.{sym, ap, ◌∙◌, subst, zero-le, le_trans, le_of_eq, one-mul, mul-one, zero-mul, mul_comm, mul_assoc, mul_right_comm, mul-pos, mul-le-mul_right, le_of_mul-le-mul_right, true≢false, leb→le, ltb→lt, eqb→eq, lit≤, pow-add, pow_pos, pow_mono}
use Rattle.std.proofs.Math.Nat.{eq_of_mul-eq-mul_right}
use Rattle.std.specs.Float.{nan, inf, fin, Format, binary64}
use Rattle.std.specs.Float.Ieee.{prec, emax, low, up, down, mul, round, of_int, fits}
use Rattle.std.specs.Float.Ieee.Digits.{back}
use Rattle.std.specs.Float.Ieee.Fits.{down_pos, and_l, and_r}
use Rattle.std.specs.Float.Ieee.Exact.{HasValue}
use Rattle.std.specs.Float.Ieee.Back.{round_whole}
use Rattle.std.specs.Float.Ieee.Scale.{round_same, grid}
use Rattle.angle.proofs.Powers.{pow_le_back}
use Rattle.angle.specs.Angle.{valid_angle}
use Rattle.angle.proofs.Grid.{grid-exact}
use Rattle.angle.proofs.Values.{flat, round-at, under}
use Rattle.angle.proofs.PseudoAngle.{down_le}

-- ---- the product is one rounding
product-scale : (M Q n de dd : ℕ) → Q ≡ n * dd → M * Q * de ≡ M * n * (de * dd)
product-scale M Q n de dd h =
    ap (λ (x : ℕ). M * x * de) h
    ∙ ap (λ (x : ℕ). x * de) (sym (mul_assoc M n dd))
    ∙ mul_right_comm (M * n) dd de
    ∙ mul_assoc (M * n) de dd

times-at : (f : Format) (s : Bool) (m : ℕ) (e : ℤ) (y : Float) (n : ℕ) → HasValue y false n 1
    → mul f (fin s m e) y ≡ round f s (m * up e * n) (down e)
unfolding mul
times-at f s m e nan n v = absurd v
times-at f s m e (inf t) n v = absurd v
times-at f s m e (fin true q d) n v = absurd (true≢false v.0)
times-at f s m e (fin false q d) n v =
    ap (λ (k : Bool). round f k (m * up e * (q * up d)) (down e * down d)) (flat s)
    ∙ round_same f s (m * up e * (q * up d)) (down e * down d) (m * up e * n) (down e) (mul-pos (down_pos e) (down_pos d)) (down_pos e)
    (product-scale (m * up e) (q * up d) n (down e) (down d) (sym (mul-one (q * up d)) ∙ v.1))

-- ---- what is rounded is m * 2 ^ j of the smallest values
place : (l i : ℕ) (e : ℤ) → down e ≤ 2 ^ l → (j : ℕ) × (up e * 2 ^ i * 2 ^ l ≡ 2 ^ j * down e)
place l i (pos a) h = (a + i + l, ap (λ (x : ℕ). x * 2 ^ l) (sym (pow-add 2 a i)) ∙ sym (pow-add 2 (a + i) l) ∙ sym (mul-one (2 ^ (a + i + l))))
place l i (negsuc a) h = (
  i + (l - suc a),
  ap (λ (x : ℕ). x * 2 ^ l) (one-mul (2 ^ i))
      ∙ ap (λ (x : ℕ). 2 ^ i * x) (ap (λ (x : ℕ). 2 ^ x) (sym (back l (suc a) (pow_le_back (suc a) l h))) ∙ pow-add 2 (l - suc a) (suc a))
      ∙ sym (mul_assoc (2 ^ i) (2 ^ (l - suc a)) (2 ^ suc a))
      ∙ ap (λ (x : ℕ). x * 2 ^ suc a) (sym (pow-add 2 i (l - suc a))),
)

few-digits : (f : Format) (s : Bool) (m : ℕ) (e : ℤ) → T (fits f (fin s m e)) → m < 2 ^ prec f
unfolding fits
few-digits f s zero e h = pow_pos (prec f)
few-digits f s (suc m) e h =
    ltb→lt (suc m) (2 ^ prec f)
    (and_r (eqb (suc m % 2) 1) (ltb (suc m) (2 ^ prec f))
    (and_l (eqb (suc m % 2) 1 && ltb (suc m) (2 ^ prec f)) (leb (down e) (2 ^ low f))
    (and_l (eqb (suc m % 2) 1 && ltb (suc m) (2 ^ prec f) && leb (down e) (2 ^ low f)) (ltb (suc m * up e) (2 ^ suc (emax f) * down e)) h)))

-- ---- from the smallest values to the product's own fraction
rescale : (z : Float) (s : Bool) (G U N D : ℕ) → 0 < U → N * U ≡ G * D → HasValue z s G U → HasValue z s N D
rescale nan s G U N D W h v = v
rescale (inf t) s G U N D W h v = v
rescale (fin t q d) s G U N D W h v = (
  v.0,
  eq_of_mul-eq-mul_right U W (q * up d * D) (N * down d)
      (mul_right_comm (q * up d) D U ∙ ap (λ (x : ℕ). x * D) v.1 ∙ mul_right_comm G (down d) D ∙ ap (λ (x : ℕ). x * down d) (sym h) ∙ mul_right_comm N U (down d)),
)

exact-at : (f : Format) (s : Bool) (m : ℕ) (e : ℤ) (i : ℕ) (y : Float) → T (fits f (fin s m e)) → m * up e ≤ down e
    → i ≤ 64 → HasValue y false (2 ^ i) 1 → HasValue (mul f (fin s m e) y) s (m * up e * 2 ^ i) (down e)
exact-at f s m e i y fit h I v =
    let U = 2 ^ low f in
    let N = m * up e * 2 ^ i in
    let p = place (low f) i e (down_le f s m e fit) in
    let G = m * 2 ^ p.0 in
    let scaled : N * U ≡ G * down e = ap (λ (x : ℕ). x * U) (mul_assoc m (up e) (2 ^ i)) ∙ mul_assoc m (up e * 2 ^ i) U ∙ ap (λ (x : ℕ). m * x) p.1 ∙ sym (mul_assoc m (2 ^ p.0) (down e)) in
    let fixed : grid f N (down e) ≡ G = grid-exact f N (down e) m p.0 (down_pos e) (few-digits f s m e fit) scaled in
    let most : G ≤ 2 ^ (low f + i) =
    le_of_mul-le-mul_right
    (le_trans (le_of_eq (sym scaled))
    (le_trans (mul-le-mul_right U (mul-le-mul_right (2 ^ i) h))
    (le_of_eq (mul_assoc (down e) (2 ^ i) U ∙ mul_comm (down e) (2 ^ i * U) ∙ ap (λ (x : ℕ). x * down e) (mul_comm (2 ^ i) U ∙ sym (pow-add 2 (low f) i))))))
    (down_pos e) in
    subst (λ (z : Float). HasValue z s N (down e)) (sym (times-at f s m e y (2 ^ i) v))
    (rescale (round f s N (down e)) s G U N (down e) (pow_pos (low f)) scaled
    (subst (λ (g : ℕ). HasValue (round f s N (down e)) s g U) fixed (round-at f s N (down e) (under f (grid f N (down e)) i I (le_trans (le_of_eq fixed) most)))))

valid-le-one : (s : Bool) (m : ℕ) (e : ℤ) → T (valid_angle (fin s m e)) → m * up e ≤ down e
unfolding valid_angle
valid-le-one false m e h = leb→le (m * up e) (down e) h
valid-le-one true m e h = le_trans (le_of_eq (ap (λ (x : ℕ). x * up e) (eqb→eq m 0 h) ∙ zero-mul (up e))) zero-le

pub product-exact : (s : Bool) (m : ℕ) (e : ℤ) (i : ℕ) → i ≤ 53 → T (fits binary64 (fin s m e))
    → T (valid_angle (fin s m e))
    → HasValue (mul binary64 (fin s m e) (of_int binary64 (pos (2 ^ i)))) s (m * up e * 2 ^ i) (down e)
unfolding of_int
product-exact s m e i h fit v =
    exact-at binary64 s m e i (round binary64 false (2 ^ i) 1) fit (valid-le-one s m e v) (le_trans h (lit≤ tt)) (round_whole binary64 false (2 ^ i) (pow_mono h))
