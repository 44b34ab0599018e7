-- Laws of specs/Whole.antt.
use Rattle.std.specs.Prelude.{◌≡◌, refl, Bool, true, false, not, cond, [], ◌∷◌, ℕ, suc, ◌+◌, ◌-◌, ◌*◌, ◌^◌, ◌≤◌, ◌<◌, T, ltb, ℤ, pos, negsuc, neg_ℤ, nat_abs, ◌+ℤ◌, ◌-ℤ◌, ◌*ℤ◌, Float}
use Rattle.std.proofs.Common.{sym, ap, ap₂, ◌∙◌, subst, mul-one, mul_comm, mul_assoc, mul-pos, arith, ltb→lt, nltb→le, lit<}
use Rattle.std.specs.Float.{nan, inf, fin, Format}
use Rattle.std.specs.Float.Ieee.{prec, unlike, up, down, round, neg, sum, add, sub, mul, of_int}
use Rattle.std.specs.Float.Ieee.Fits.{down_pos}
use Rattle.std.specs.Float.Ieee.Exact.{HasValue}
use Rattle.std.specs.Float.Ieee.Back.{round_whole}
use Rattle.std.specs.Float.Ieee.Scale.{round_same}
use Rattle.algebra.specs.Ring.{◌⊕◌, ◌⊖◌, ◌⊗◌, ⊝◌}
use Rattle.algebra.proofs.RingLaws.{v0, v1, ring}
use Rattle.algebra.proofs.Bound.{nat_abs-neg}
use Rattle.algebra.proofs.Fractions.{add-fractions, neg-fraction, sub_is, sum_like}
use Rattle.math.specs.Whole.{signed, Whole}

size-abs : (s : Bool) (n : ℕ) → nat_abs (signed s n) ≡ n
size-abs false n = refl
size-abs true n = nat_abs-neg (pos n)

pub whole-abs : {x : Float} {z : ℤ} (w : Whole x z) → w.size ≡ nat_abs z
whole-abs w = sym (size-abs w.sign w.size) ∙ ap nat_abs w.is

-- ---- a rounded whole number that is not too large
whole-round : (f : Format) (s : Bool) (n : ℕ) (z : ℤ) → signed s n ≡ z → nat_abs z ≤ 2 ^ prec f → Whole (round f s n 1) z
whole-round f s n z e h = record { sign = s; size = n; value = round_whole f s n (subst (λ (k : ℕ). k ≤ 2 ^ prec f) (sym (ap nat_abs e) ∙ size-abs s n) h); is = e }

pub whole-int : (f : Format) (z : ℤ) → nat_abs z ≤ 2 ^ prec f → Whole (of_int f z) z
unfolding of_int
whole-int f (pos n) h = whole-round f false n (pos n) refl h
whole-int f (negsuc n) h = whole-round f true (suc n) (negsuc n) refl h

-- ---- the difference of two naturals as an integer
minus_is : (a b : ℕ) → b ≤ a → pos (a - b) ≡ pos a -ℤ pos b
minus_is a b h =
    let e : a - b + b ≡ a = omega arith in
    ring (pos (a - b) ∷ pos b ∷ []) v0 (v0 ⊕ v1 ⊖ v1) refl ∙ ap (λ (n : ℕ). pos n -ℤ pos b) e

unlike-sum : (f : Format) (s : Bool) (a b : ℕ) → nat_abs (signed s a +ℤ signed (not s) b) ≤ 2 ^ prec f
    → Whole (sum f s a (not s) b 1) (signed s a +ℤ signed (not s) b)
unfolding sum
unlike-sum f false a b h = go (ltb a b) (ltb→lt a b) (nltb→le a b)
  where
    go : (t : Bool) → (T t → a < b) → (T (not t) → b ≤ a)
        → Whole (cond t (round f true (b - a) 1) (round f false (a - b) 1)) (pos a +ℤ neg_ℤ (pos b))
    go true p q = whole-round f true (b - a) (pos a +ℤ neg_ℤ (pos b)) (ap neg_ℤ (minus_is b a (omega (arith, p tt))) ∙ ring (pos a ∷ pos b ∷ []) (⊝ (v1 ⊖ v0)) (v0 ⊕ ⊝ v1) refl) h
    go false p q = whole-round f false (a - b) (pos a +ℤ neg_ℤ (pos b)) (minus_is a b (q tt)) h
unlike-sum f true a b h = go (ltb a b) (ltb→lt a b) (nltb→le a b) (ltb b a) (ltb→lt b a) (nltb→le b a)
  where
    go : (t : Bool) → (T t → a < b) → (T (not t) → b ≤ a) → (u : Bool) → (T u → b < a) → (T (not u) → a ≤ b)
        → Whole (cond t (round f false (b - a) 1) (round f u (a - b) 1)) (neg_ℤ (pos a) +ℤ pos b)
    go true p q u r s = whole-round f false (b - a) (neg_ℤ (pos a) +ℤ pos b) (minus_is b a (omega (arith, p tt)) ∙ ring (pos a ∷ pos b ∷ []) (v1 ⊖ v0) (⊝ v0 ⊕ v1) refl) h
    go false p q true r s = whole-round f true (a - b) (neg_ℤ (pos a) +ℤ pos b) (ap neg_ℤ (minus_is a b (q tt)) ∙ ring (pos a ∷ pos b ∷ []) (⊝ (v0 ⊖ v1)) (⊝ v0 ⊕ v1) refl) h
    go false p q false r s =
        let e : a ≡ b = omega (arith, q tt, s tt) in
        whole-round f false (a - b) (neg_ℤ (pos a) +ℤ pos b) (minus_is a b (q tt) ∙ ap₂ (λ (m n : ℕ). pos m -ℤ pos n) e (sym e) ∙ ring (pos a ∷ pos b ∷ []) (v1 ⊖ v0) (⊝ v0 ⊕ v1) refl) h

like-sum : (f : Format) (s : Bool) (a b : ℕ) → nat_abs (signed s a +ℤ signed s b) ≤ 2 ^ prec f
    → Whole (sum f s a s b 1) (signed s a +ℤ signed s b)
like-sum f false a b h = subst (λ (x : Float). Whole x (pos (a + b))) (sym (sum_like f false a b 1)) (whole-round f false (a + b) (pos (a + b)) refl h)
like-sum f true a b h =
    subst (λ (x : Float). Whole x (neg_ℤ (pos a) +ℤ neg_ℤ (pos b))) (sym (sum_like f true a b 1))
    (whole-round f true (a + b) (neg_ℤ (pos a) +ℤ neg_ℤ (pos b)) (ring (pos a ∷ pos b ∷ []) (⊝ (v0 ⊕ v1)) (⊝ v0 ⊕ ⊝ v1) refl) h)

any_sum : (f : Format) (s t : Bool) (a b : ℕ) → nat_abs (signed s a +ℤ signed t b) ≤ 2 ^ prec f
    → Whole (sum f s a t b 1) (signed s a +ℤ signed t b)
any_sum f false false a b h = like-sum f false a b h
any_sum f false true a b h = unlike-sum f false a b h
any_sum f true false a b h = unlike-sum f true a b h
any_sum f true true a b h = like-sum f true a b h

-- ---- the operations on whole numbers
module _ (f : Format) {x y : Float} {a b : ℤ} (v : Whole x a) (w : Whole y b) where
  pub whole-add : nat_abs (a +ℤ b) ≤ 2 ^ prec f → Whole (add f x y) (a +ℤ b)
  whole-add h =
      let e = ap₂ ◌+ℤ◌ v.is w.is in
      subst (λ (z : Float). Whole z (a +ℤ b)) (sym (add-fractions f x y v.sign w.sign v.size w.size 1 (lit< tt) v.value w.value))
      (subst (Whole (sum f v.sign v.size w.sign w.size 1)) e
      (any_sum f v.sign w.sign v.size w.size (subst (λ (z : ℤ). nat_abs z ≤ 2 ^ prec f) (sym e) h)))

signed-not : (s : Bool) (n : ℕ) → signed (not s) n ≡ neg_ℤ (signed s n)
signed-not false n = refl
signed-not true n = ring (pos n ∷ []) v0 (⊝ (⊝ v0)) refl

whole_neg : {x : Float} {a : ℤ} → Whole x a → Whole (neg x) (neg_ℤ a)
whole_neg {x} {a} v = record { sign = not v.sign; size = v.size; value = neg-fraction x v.sign v.size 1 v.value; is = signed-not v.sign v.size ∙ ap neg_ℤ v.is }

pub whole_sub : (f : Format) {x y : Float} {a b : ℤ} → Whole x a → Whole y b → nat_abs (a -ℤ b) ≤ 2 ^ prec f → Whole (sub f x y) (a -ℤ b)
whole_sub f {x} {y} {a} {b} v w h = subst (λ (z : Float). Whole z (a -ℤ b)) (sym (sub_is f x y)) (whole-add f v (whole_neg w) h)

-- ---- the product
signed_mul : (s t : Bool) (a b : ℕ) → signed (unlike s t) (a * b) ≡ signed s a *ℤ signed t b
signed_mul false false a b = refl
signed_mul false true a b = ring (pos a ∷ pos b ∷ []) (⊝ (v0 ⊗ v1)) (v0 ⊗ ⊝ v1) refl
signed_mul true false a b = ring (pos a ∷ pos b ∷ []) (⊝ (v0 ⊗ v1)) (⊝ v0 ⊗ v1) refl
signed_mul true true a b = ring (pos a ∷ pos b ∷ []) (v0 ⊗ v1) (⊝ v0 ⊗ ⊝ v1) refl

mul-scale : (X Y de dd a b : ℕ) → X * 1 ≡ a * de → Y * 1 ≡ b * dd → X * Y * 1 ≡ a * b * (de * dd)
mul-scale X Y de dd a b p q =
    mul-one (X * Y) ∙ ap₂ ◌*◌ (sym (mul-one X) ∙ p) (sym (mul-one Y) ∙ q)
    ∙ mul_assoc a de (b * dd) ∙ ap (λ (z : ℕ). a * z) (sym (mul_assoc de b dd) ∙ ap (λ (z : ℕ). z * dd) (mul_comm de b) ∙ mul_assoc b de dd) ∙ sym (mul_assoc a b (de * dd))

mul_at : (f : Format) (x y : Float) (s t : Bool) (a b : ℕ) → HasValue x s a 1 → HasValue y t b 1
    → mul f x y ≡ round f (unlike s t) (a * b) 1
unfolding mul
mul_at f nan y s t a b v w = absurd v
mul_at f (inf r) y s t a b v w = absurd v
mul_at f (fin r m e) nan s t a b v w = absurd w
mul_at f (fin r m e) (inf z) s t a b v w = absurd w
mul_at f (fin r m e) (fin z n d) s t a b v w =
    ap₂ (λ (i j : Bool). round f (unlike i j) (m * up e * (n * up d)) (down e * down d)) v.0 w.0
    ∙ round_same f (unlike s t) (m * up e * (n * up d)) (down e * down d) (a * b) 1 (mul-pos (down_pos e) (down_pos d)) (lit< tt) (mul-scale (m * up e) (n * up d) (down e) (down d) a b v.1 w.1)

pub whole-mul : (f : Format) {x y : Float} {a b : ℤ} → Whole x a → Whole y b → nat_abs (a *ℤ b) ≤ 2 ^ prec f → Whole (mul f x y) (a *ℤ b)
whole-mul f {x} {y} {a} {b} v w h =
    subst (λ (z : Float). Whole z (a *ℤ b)) (sym (mul_at f x y v.sign w.sign v.size w.size v.value w.value))
    (whole-round f (unlike v.sign w.sign) (v.size * w.size) (a *ℤ b) (signed_mul v.sign w.sign v.size w.size ∙ ap₂ ◌*ℤ◌ v.is w.is) h)
