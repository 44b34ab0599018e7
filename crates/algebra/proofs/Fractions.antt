-- Floats by the fractions that they equal, for any format: fractions over one denominator and over another, and the sum
-- of two floats from their fractions. `HasValue x s a c` of `lib.Ieee.Exact` says that x has the sign s and is a / c in
-- size. Assumes nothing.
use Rattle.std.specs.Prelude.{◌≡◌, refl, Bool, true, false, not, ◌&&◌, cond, ℕ, ◌+◌, ◌-◌, ◌*◌, ◌<◌, ltb, eqb}
use Rattle.std.proofs.Common.{sym, ap, ap₂, ◌∙◌, subst, mul_comm, mul_assoc, mul_right_comm, mul-pos, add-mul, lt_of_mul-lt-mul_right, mul-lt-mul_of_pos_right, ltb→lt, lt→ltb, eqb→eq}
use Rattle.std.specs.Bool.{beq}
use Rattle.std.proofs.Math.Nat.{mul-sub, eq_of_mul-eq-mul_right}
use lib.Ieee.{Float, nan, inf, fin, Format, up, down, round, neg, sum, add, sub}
use Rattle.std.specs.Float.Ieee.Fits.{down_pos, eq→eqb}
use Rattle.std.specs.Float.Ieee.Exact.{HasValue}
use Rattle.std.specs.Float.Ieee.Scale.{round_same}
use Rattle.algebra.proofs.Test.{test-ext}

-- ---- A / C and a / U are one number, and so are B / C and b / U
lt-scale : (A B C a b U : ℕ) → 0 < U → A * U ≡ a * C → B * U ≡ b * C → A < B → a < b
lt-scale A B C a b U hU p q h = lt_of_mul-lt-mul_right C (subst (λ (x : ℕ). x < b * C) p (subst (λ (x : ℕ). A * U < x) q (mul-lt-mul_of_pos_right h hU)))

eq-scale : (A B C a b U : ℕ) → 0 < C → A * U ≡ a * C → B * U ≡ b * C → A ≡ B → a ≡ b
eq-scale A B C a b U hC p q h = eq_of_mul-eq-mul_right C hC a b (sym p ∙ ap (λ (x : ℕ). x * U) h ∙ q)

pub ltb-scale : (A B C a b U : ℕ) → 0 < C → 0 < U → A * U ≡ a * C → B * U ≡ b * C → ltb A B ≡ ltb a b
ltb-scale A B C a b U hC hU p q =
    test-ext (ltb A B) (ltb a b) (λ t. lt→ltb a b (lt-scale A B C a b U hU p q (ltb→lt A B t)))
    (λ t. lt→ltb A B (lt-scale a b U A B C hC (sym p) (sym q) (ltb→lt a b t)))

pub eqb-scale : (A B C a b U : ℕ) → 0 < C → 0 < U → A * U ≡ a * C → B * U ≡ b * C → eqb A B ≡ eqb a b
eqb-scale A B C a b U hC hU p q =
    test-ext (eqb A B) (eqb a b) (λ t. eq→eqb (eq-scale A B C a b U hC p q (eqb→eq A B t)))
    (λ t. eq→eqb (eq-scale a b U A B C hU (sym p) (sym q) (eqb→eq a b t)))

add-scale : (A B C a b U : ℕ) → A * U ≡ a * C → B * U ≡ b * C → (A + B) * U ≡ (a + b) * C
add-scale A B C a b U p q = add-mul A B U ∙ ap₂ ◌+◌ p q ∙ sym (add-mul a b C)

sub-mul : (a b c : ℕ) → (a - b) * c ≡ a * c - b * c
sub-mul a b c = mul_comm (a - b) c ∙ mul-sub c a b ∙ ap₂ ◌-◌ (mul_comm c a) (mul_comm c b)

sub-scale : (A B C a b U : ℕ) → A * U ≡ a * C → B * U ≡ b * C → (A - B) * U ≡ (a - b) * C
sub-scale A B C a b U p q = sub-mul A B U ∙ ap₂ ◌-◌ p q ∙ sym (sub-mul a b C)

sum-scale : (f : Format) (s : Bool) (A : ℕ) (t : Bool) (B C a b U : ℕ) → 0 < C → 0 < U → A * U ≡ a * C → B * U ≡ b * C
    → sum f s A t B C ≡ sum f s a t b U
unfolding sum
sum-scale f s A t B C a b U hC hU p q =
    ap (λ (x : Float). cond (beq s t) x (cond (ltb A B) (round f t (B - A) C) (round f (s && ltb B A) (A - B) C))) (round_same f s (A + B) C (a + b) U hC hU (add-scale A B C a b U p q))
    ∙ ap (λ (x : Bool). cond (beq s t) (round f s (a + b) U) (cond x (round f t (B - A) C) (round f (s && ltb B A) (A - B) C))) (ltb-scale A B C a b U hC hU p q)
    ∙ ap (λ (x : Float). cond (beq s t) (round f s (a + b) U) (cond (ltb a b) x (round f (s && ltb B A) (A - B) C))) (round_same f t (B - A) C (b - a) U hC hU (sub-scale B A C b a U q p))
    ∙ ap (λ (x : Bool). cond (beq s t) (round f s (a + b) U) (cond (ltb a b) (round f t (b - a) U) (round f (s && x) (A - B) C))) (ltb-scale B A C b a U hC hU q p)
    ∙ ap (λ (x : Float). cond (beq s t) (round f s (a + b) U) (cond (ltb a b) (round f t (b - a) U) x)) (round_same f (s && ltb b a) (A - B) C (a - b) U hC hU (sub-scale A B C a b U p q))

-- two fractions over their common denominator
pub left-scale : (X de dd a c : ℕ) → X * c ≡ a * de → X * dd * c ≡ a * (de * dd)
left-scale X de dd a c h = mul_right_comm X dd c ∙ ap (λ (z : ℕ). z * dd) h ∙ mul_assoc a de dd

pub right-scale : (Y de dd b c : ℕ) → Y * c ≡ b * dd → Y * de * c ≡ b * (de * dd)
right-scale Y de dd b c h = left-scale Y dd de b c h ∙ ap (λ (z : ℕ). b * z) (mul_comm dd de)

-- ---- the sum and the difference of two floats over one denominator
pub add-fractions : (f : Format) (x y : Float) (s t : Bool) (a b U : ℕ) → 0 < U → HasValue x s a U
    → HasValue y t b U → add f x y ≡ sum f s a t b U
unfolding add
add-fractions f nan y s t a b U h v w = absurd v
add-fractions f (inf r) y s t a b U h v w = absurd v
add-fractions f (fin r m e) nan s t a b U h v w = absurd w
add-fractions f (fin r m e) (inf z) s t a b U h v w = absurd w
add-fractions f (fin r m e) (fin z n d) s t a b U h v w =
    let A = m * up e * down d in
    let B = n * up d * down e in
    let C = down e * down d in
    ap (λ (k : Bool). sum f k A z B C) v.0
    ∙ ap (λ (k : Bool). sum f s A k B C) w.0
    ∙ sum-scale f s A t B C a b U (mul-pos (down_pos e) (down_pos d)) h (left-scale (m * up e) (down e) (down d) a U v.1) (right-scale (n * up d) (down e) (down d) b U w.1)

pub neg-fraction : (x : Float) (s : Bool) (a c : ℕ) → HasValue x s a c → HasValue (neg x) (not s) a c
unfolding neg
neg-fraction nan s a c v = absurd v
neg-fraction (inf r) s a c v = absurd v
neg-fraction (fin r m e) s a c v = (ap not v.0, v.1)

pub sub_is : (f : Format) (x y : Float) → sub f x y ≡ add f x (neg y)
unfolding sub
sub_is f x y = refl

pub sub-fractions : (f : Format) (x y : Float) (s t : Bool) (a b U : ℕ) → 0 < U → HasValue x s a U
    → HasValue y t b U → sub f x y ≡ sum f s a (not t) b U
sub-fractions f x y s t a b U h v w = sub_is f x y ∙ add-fractions f x (neg y) s (not t) a b U h v (neg-fraction y t b U w)

-- like signs
pub sum_like : (f : Format) (s : Bool) (a b c : ℕ) → sum f s a s b c ≡ round f s (a + b) c
unfolding sum
sum_like f true a b c = refl
sum_like f false a b c = refl
