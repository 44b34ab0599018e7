-- Laws of specs/Wide.antt.
use Rattle.std.specs.Prelude.{◌≡◌, ℕ, zero, suc, ◌+◌, ◌*◌, ◌-◌, ◌/◌, ◌%◌, ◌<◌, ◌≤◌, T, ℤ, negsuc, neg_ℤ, nat_abs, ◌+ℤ◌, ◌-ℤ◌, ◌*ℤ◌}
use Rattle.std.proofs.Math.Path.{refl}
use Rattle.std.proofs.Common.{sym, ◌∙◌, ap, ap₂, zero-le, suc-le-suc, div-add-mod', le_trans, le_of_eq, not-suc-le-zero, lt_of_le_of_lt, lt-ltb, lt→ltb, ltb→lt}
use mathlib.Core.List.{List, [], ◌∷◌}
use Rattle.std.proofs.Math.Nat.{le_refl}
use native.Mathlib.Omega.{arith}
use Rattle.std.proofs.Math.IntN.{pos}
use Rattle.std.specs.Int.Signed.{lt_z, shr_z, lt_z_yes}
use Rattle.algebra.specs.Ring.{E, num, ◌⊕◌, ◌⊖◌, ◌⊗◌, ⊝◌}
use Rattle.algebra.proofs.RingLaws.{v0, v1, v2, v3, v4, v5, v6, v7, ring}
use Rattle.algebra.proofs.Sign.{◌+⁺◌, lt_in, le_in, lt_by, eq-in, eq-by, ◌*⁰◌, ◌+⁰◌}
use Rattle.algebra.proofs.Bound.{Env, []ᵉ, ◌∷ᵉ◌, within, abs-le, abs-ge}
use Rattle.math.specs.declared.wide.Digits.{Digits}
use Rattle.math.specs.Wide.{sgn, wide_of, SplitOf, TwoDigits, high_of, middle_of, low_of, AtMost51, total_of, reach_of}

test-sgn : (z : ℤ) → lt_z (pos 0) (sgn z) ≡ lt_z (pos 0) z
unfolding sgn
test-sgn (pos zero) = refl
test-sgn (pos (suc n)) = sym (lt-ltb 0 (suc n) (suc-le-suc zero-le))
test-sgn (negsuc n) = refl

-- a test for a positive number goes by the sign alone
pub sgn-test : (r z : ℤ) → sgn r ≡ sgn z → lt_z (pos 0) r ≡ lt_z (pos 0) z
sgn-test r z e = sym (test-sgn r) ∙ ap (lt_z (pos 0)) e ∙ test-sgn z

sgn-above : (z : ℤ) → T (lt_z (pos 0) z) → sgn z ≡ pos 1
unfolding sgn
sgn-above (pos zero) h = absurd h
sgn-above (pos (suc n)) h = refl
sgn-above (negsuc n) h = absurd h

sgn-below : (z : ℤ) → T (lt_z z (pos 0)) → sgn z ≡ negsuc 0
unfolding sgn
sgn-below (pos n) h = absurd (not-suc-le-zero (ltb→lt n 0 h))
sgn-below (negsuc n) h = refl

abbrev K : E
K = num (pos 67108864)

abbrev K² : E
K² = num (pos 4503599627370496)

-- the first digit has the sign of the whole where it outweighs the rest
lead : (h rest : ℤ) → nat_abs rest < nat_abs h * 4503599627370496 → sgn h ≡ sgn (h *ℤ pos 4503599627370496 +ℤ rest)
unfolding sgn
lead (pos zero) rest k = absurd (omega (arith, k))
lead (pos (suc n)) rest k =
    let ρ = pos (suc n) ∷ rest ∷ pos (nat_abs rest) ∷ [] in
    sym (sgn-above (pos (suc n) *ℤ pos 4503599627370496 +ℤ rest) (lt_by (lt_in ρ v2 (v0 ⊗ K²) (lt_z_yes (lt→ltb (nat_abs rest) (suc n * 4503599627370496) k)) +⁺ le_in ρ (⊝ v2) v1 (abs-ge (le_refl (nat_abs rest)))) (num (pos 0)) (v0 ⊗ K² ⊕ v1) refl).lt)
lead (negsuc n) rest k =
    let ρ = pos (suc n) ∷ rest ∷ pos (nat_abs rest) ∷ [] in
    sym (sgn-below (negsuc n *ℤ pos 4503599627370496 +ℤ rest) (lt_by (lt_in ρ v2 (v0 ⊗ K²) (lt_z_yes (lt→ltb (nat_abs rest) (suc n * 4503599627370496) k)) +⁺ le_in ρ v1 v2 (abs-le (le_refl (nat_abs rest)))) (⊝ v0 ⊗ K² ⊕ v1) (num (pos 0)) refl).lt)

-- what is left of x above its shift by 26 places
pub shr-rest : (x : ℤ) → nat_abs (x -ℤ shr_z x 67108864 *ℤ pos 67108864) ≤ 67108863
shr-rest (pos a) = le_trans (le_of_eq (ap nat_abs eq)) (omega arith)
  where
    eq : pos a -ℤ pos (a / 67108864) *ℤ pos 67108864 ≡ pos (a % 67108864)
    eq = ap (λ (k : ℕ). pos k -ℤ pos (a / 67108864) *ℤ pos 67108864) (sym (div-add-mod' a 67108864)) ∙ ring (pos (a / 67108864) ∷ pos (a % 67108864) ∷ []) (v0 ⊗ K ⊕ v1 ⊖ v0 ⊗ K) v1 refl
shr-rest (negsuc a) = le_trans (le_of_eq (ap nat_abs eq)) (omega arith)
  where
    n : ℕ
    n = 67108863 - a % 67108864

    whole : suc (a / 67108864) * 67108864 ≡ suc a + n
    whole = omega arith

    eq : negsuc a -ℤ negsuc (a / 67108864) *ℤ pos 67108864 ≡ pos n
    eq = ap (λ (k : ℕ). negsuc a -ℤ neg_ℤ (pos k)) whole ∙ ring (pos (suc a) ∷ pos n ∷ []) (⊝ v0 ⊖ ⊝ (v0 ⊕ v1)) v1 refl

pub shr-abs : (x : ℤ) → nat_abs (shr_z x 67108864) ≤ nat_abs x / 67108864 + 1
shr-abs (pos a) = omega arith
shr-abs (negsuc a) = omega arith

pub split-of : (x h l : ℤ) → h ≡ shr_z x 67108864 → l ≡ x -ℤ h *ℤ pos 67108864 → SplitOf x (record { hi = h; lo = l })
split-of x h l p q =
    let ρ = x ∷ h ∷ l ∷ [] in
    record {
      is = eq-by (eq-in ρ v2 (v0 ⊖ v1 ⊗ K) q) (v1 ⊗ K ⊕ v2) v0 refl;
      hi = le_trans (le_of_eq (ap nat_abs p)) (shr-abs x);
      lo = le_trans (le_of_eq (ap nat_abs (q ∙ ap (λ (z : ℤ). x -ℤ z *ℤ pos 67108864) p))) (shr-rest x);
    }

pub two_digits : {x : ℤ} {d : Digits} → SplitOf x d → nat_abs x ≤ 2251799813685248 → TwoDigits d
two_digits s h = record { hi = omega (arith, s.hi, h); lo = s.lo }

abbrev pub digits : Digits → Digits → Digits → Digits → List ℤ
digits x y z w = x.hi ∷ x.lo ∷ y.hi ∷ y.lo ∷ z.hi ∷ z.lo ∷ w.hi ∷ w.lo ∷ []

pub products : {a b c d : ℤ} {x y z w : Digits} → SplitOf a x → SplitOf b y → SplitOf c z → SplitOf d w
    → wide_of (high_of x y z w) (middle_of x y z w) (low_of x y z w) ≡ a *ℤ b +ℤ c *ℤ d
unfolding wide_of high_of middle_of low_of
products {x = x} {y = y} {z = z} {w = w} p q r s =
    ring (digits x y z w) ((v0 ⊗ v2 ⊕ v4 ⊗ v6) ⊗ K² ⊕ ((v0 ⊗ v3 ⊕ v1 ⊗ v2 ⊕ (v4 ⊗ v7 ⊕ v5 ⊗ v6)) ⊗ K ⊕ (v1 ⊗ v3 ⊕ v5 ⊗ v7))) ((v0 ⊗ K ⊕ v1) ⊗ (v2 ⊗ K ⊕ v3) ⊕ (v4 ⊗ K ⊕ v5) ⊗ (v6 ⊗ K ⊕ v7)) refl
    ∙ ap₂ ◌+ℤ◌ (ap₂ ◌*ℤ◌ p.is q.is) (ap₂ ◌*ℤ◌ r.is s.is)

abbrev pub limits : List ℕ
limits = 33554433 ∷ 67108863 ∷ 33554433 ∷ 67108863 ∷ 33554433 ∷ 67108863 ∷ 33554433 ∷ 67108863 ∷ []

module _ {x y z w : Digits} (p : TwoDigits x) (q : TwoDigits y) (r : TwoDigits z) (s : TwoDigits w) where
  pub factors : Env (digits x y z w) limits
  factors = p.hi ∷ᵉ p.lo ∷ᵉ q.hi ∷ᵉ q.lo ∷ᵉ r.hi ∷ᵉ r.lo ∷ᵉ s.hi ∷ᵉ s.lo ∷ᵉ []ᵉ

  pub high-abs : nat_abs (high_of x y z w) ≤ 36028797018963968
  unfolding high_of
  high-abs = omega (arith, within factors (v0 ⊗ v2 ⊕ v4 ⊗ v6))

  pub middle-abs : nat_abs (middle_of x y z w) ≤ 18014398509481984
  unfolding middle_of
  middle-abs = omega (arith, within factors (v0 ⊗ v3 ⊕ v1 ⊗ v2 ⊕ (v4 ⊗ v7 ⊕ v5 ⊗ v6)))

  pub low-abs : nat_abs (low_of x y z w) ≤ 18014398509481984
  unfolding low_of
  low-abs = omega (arith, within factors (v1 ⊗ v3 ⊕ v5 ⊗ v7))

pub total-small : {x y z w : ℤ} → AtMost51 x → AtMost51 y → AtMost51 z → AtMost51 w → total_of x y z w ≤ 9007199254740992
unfolding total_of
total-small p q r s = omega (arith, p.abs, q.abs, r.abs, s.abs)

-- which is known without the digits
reach-total : {a b c d : ℤ} {x y z w : Digits} → SplitOf a x → SplitOf b y → SplitOf c z → SplitOf d w
    → reach_of x y z w ≤ total_of a b c d / 67108864 + 6
unfolding reach_of total_of
reach-total p q r s = omega (arith, p.hi, q.hi, r.hi, s.hi)

module _ {x y z w : Digits} (p : TwoDigits x) (q : TwoDigits y) (r : TwoDigits z) (s : TwoDigits w) where
  middle-reach : nat_abs (middle_of x y z w) ≤ (nat_abs x.hi + nat_abs y.hi + (nat_abs z.hi + nat_abs w.hi)) * 67108863
  unfolding middle_of
  middle-reach =
      omega (
        arith,
        within
            {ρ = digits x y z w}
            (le_refl (nat_abs x.hi) ∷ᵉ p.lo ∷ᵉ le_refl (nat_abs y.hi) ∷ᵉ q.lo ∷ᵉ le_refl (nat_abs z.hi) ∷ᵉ r.lo ∷ᵉ le_refl (nat_abs w.hi) ∷ᵉ s.lo ∷ᵉ []ᵉ)
            (v0 ⊗ v3 ⊕ v1 ⊗ v2 ⊕ (v4 ⊗ v7 ⊕ v5 ⊗ v6)),
      )

  low-reach : nat_abs (low_of x y z w) ≤ 9007198986305538
  unfolding low_of
  low-reach = within (factors p q r s) (v1 ⊗ v3 ⊕ v5 ⊗ v7)

  reach-outweighs : (h : ℤ) → reach_of x y z w < nat_abs h → sgn h ≡ sgn (wide_of h (middle_of x y z w) (low_of x y z w))
  unfolding wide_of reach_of
  reach-outweighs h k =
      let m = middle_of x y z w in let l = low_of x y z w in
      lead h (m *ℤ pos 67108864 +ℤ l) (omega (arith, within {ρ = m ∷ l ∷ []} (middle-reach ∷ᵉ low-reach ∷ᵉ []ᵉ) (v0 ⊗ K ⊕ v1), k))

module _ {a b c d : ℤ} {x y z w : Digits} (p : SplitOf a x) (q : SplitOf b y) (r : SplitOf c z) (s : SplitOf d w)
    (A : AtMost51 a) (B : AtMost51 b) (C : AtMost51 c) (D : AtMost51 d) where
  pub outweighs : (h : ℤ) → h ≡ high_of x y z w → total_of a b c d / 67108864 + 6 < nat_abs h → sgn h ≡ sgn (a *ℤ b +ℤ c *ℤ d)
  outweighs h e k =
      reach-outweighs (two_digits p A.abs) (two_digits q B.abs) (two_digits r C.abs) (two_digits s D.abs) h (lt_of_le_of_lt (reach-total p q r s) k)
      ∙ ap (λ (t : ℤ). sgn (wide_of t (middle_of x y z w) (low_of x y z w))) e ∙ ap sgn (products p q r s)

abs-pos : (z : ℤ) → (z ≡ pos 0 → ⊥) → 0 < nat_abs z
abs-pos (pos zero) h = absurd (h refl)
abs-pos (pos (suc n)) h = suc-le-suc zero-le
abs-pos (negsuc n) h = suc-le-suc zero-le

-- after the carries any first digit but 0 does, and where it is 0 the others are the whole
module _ (hi mid lo : ℤ) {l m : Digits} (p : SplitOf lo l) (q : SplitOf (mid +ℤ l.hi) m) where
  carry : (hi +ℤ m.hi) *ℤ pos 4503599627370496 +ℤ (m.lo *ℤ pos 67108864 +ℤ l.lo) ≡ wide_of hi mid lo
  unfolding wide_of
  carry =
      let ρ = hi ∷ mid ∷ lo ∷ l.hi ∷ l.lo ∷ m.hi ∷ m.lo ∷ [] in
      eq-by (eq-in ρ (v3 ⊗ K ⊕ v4) v2 p.is +⁰ K *⁰ eq-in ρ (v5 ⊗ K ⊕ v6) (v1 ⊕ v3) q.is) ((v0 ⊕ v5) ⊗ K² ⊕ (v6 ⊗ K ⊕ v4)) (v0 ⊗ K² ⊕ (v1 ⊗ K ⊕ v2)) refl

  pub carry-lead : (hi +ℤ m.hi ≡ pos 0 → ⊥) → sgn (hi +ℤ m.hi) ≡ sgn (wide_of hi mid lo)
  carry-lead h = lead (hi +ℤ m.hi) (m.lo *ℤ pos 67108864 +ℤ l.lo) (omega (arith, within {ρ = m.lo ∷ l.lo ∷ []} (q.lo ∷ᵉ p.lo ∷ᵉ []ᵉ) (v0 ⊗ K ⊕ v1), abs-pos (hi +ℤ m.hi) h)) ∙ ap sgn carry

  pub carry-rest : hi +ℤ m.hi ≡ pos 0 → m.lo *ℤ pos 67108864 +ℤ l.lo ≡ wide_of hi mid lo
  carry-rest e =
      ring (m.lo ∷ l.lo ∷ []) (v0 ⊗ K ⊕ v1) (num (pos 0) ⊗ K² ⊕ (v0 ⊗ K ⊕ v1)) refl
      ∙ ap (λ (h : ℤ). h *ℤ pos 4503599627370496 +ℤ (m.lo *ℤ pos 67108864 +ℤ l.lo)) (sym e) ∙ carry
