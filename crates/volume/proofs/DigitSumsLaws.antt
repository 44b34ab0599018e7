-- The sums by digits make up the sum of the products, and none passes 2 ^ 61 in size. Assumes nothing.
use Rattle.std.specs.Prelude.{◌≡◌, refl, [], ◌∷◌, ℤ, ◌+ℤ◌, ◌*ℤ◌, ◌≤ℤ◌}
use Rattle.std.proofs.Math.Path.{sym, ap, ap₂}
use Rattle.std.proofs.Common.{◌∙◌, mul-le-mul_right, arith, lit≤}
use Prim.Native.Nat.{ℕ, suc, ◌+◌, ◌*◌, ◌/◌, ◌%◌, ◌^◌, ◌<◌, ◌≤◌}
use Rattle.std.proofs.Math.Nat.{le_trans}
use Rattle.std.proofs.Math.IntN.{pos, nat_abs}
use Rattle.algebra.specs.Ring.{◌⊕◌, ◌⊗◌}
use Rattle.algebra.proofs.RingLaws.{#◌, v0, v1, v2, v3, ring}
use Rattle.algebra.proofs.Bound.{[]ᵉ, ◌∷ᵉ◌, within}
use Rattle.algebra.proofs.Order.{abs-0≤}
use Rattle.sums.specs.Sum.{sum}
use Rattle.sums.proofs.SumLaws.{sum-ext, sum-add, sum-scale, sum-small}
use Rattle.volume.specs.DigitSums.{low_digit, middle_digit, high_digit, digit_sums, plus_triangle, whole_of, SmallTriangle, SmallSums}

pub none_yet : (a t : ℕ → ℤ) → record { low = pos 0; middle = pos 0; high = pos 0 } ≡ digit_sums 0 a t
unfolding digit_sums sum
none_yet a t = refl

pub one_more : (n : ℕ) (a t : ℕ → ℤ) → plus_triangle (digit_sums n a t) (a n) (t n) ≡ digit_sums (suc n) a t
unfolding digit_sums plus_triangle sum
one_more n a t = refl

-- ---- the digits
digits : (a : ℤ) → pos 0 ≤ℤ a → a ≡ low_digit a +ℤ middle_digit a *ℤ pos 131072 +ℤ high_digit a *ℤ pos 17179869184
digits a h = sym (abs-0≤ h) ∙ ap pos (split (nat_abs a))
  where
    split : (n : ℕ) → n ≡ n % 131072 + n / 131072 % 131072 * 131072 + n / 17179869184 * 17179869184
    split n = omega arith

pub digits-small : (n : ℕ) → n ≤ 2 ^ 50
    → (n % 131072 ≤ 131072) × (n / 131072 % 131072 ≤ 131072) × (n / 17179869184 ≤ 131072)
digits-small n h = (omega arith, omega arith, omega arith)

module _ (n : ℕ) (a t : ℕ → ℤ) (small : (i : ℕ) → i < n → SmallTriangle (a i) (t i)) where
  lows : ℕ → ℤ
  lows i = low_digit (a i) *ℤ t i

  middles : ℕ → ℤ
  middles i = middle_digit (a i) *ℤ t i

  highs : ℕ → ℤ
  highs i = high_digit (a i) *ℤ t i

  pub whole_is : whole_of (digit_sums n a t) ≡ sum n (λ i. a i *ℤ t i)
  unfolding digit_sums whole_of lows middles highs
  whole_is =
      let B = pos 131072 in
      let D = pos 17179869184 in
      sym (sum-ext n {g = λ i. lows i +ℤ B *ℤ middles i +ℤ D *ℤ highs i} (λ i l.
      ap (λ (z : ℤ). z *ℤ t i) (digits (a i) (small i l).positive)
      ∙ ring (low_digit (a i) ∷ middle_digit (a i) ∷ high_digit (a i) ∷ t i ∷ []) ((v0 ⊕ v1 ⊗ # 131072 ⊕ v2 ⊗ # 17179869184) ⊗ v3)
      (v0 ⊗ v3 ⊕ # 131072 ⊗ (v1 ⊗ v3) ⊕ # 17179869184 ⊗ (v2 ⊗ v3)) refl)
      ∙ sum-add n (λ i. lows i +ℤ B *ℤ middles i) (λ i. D *ℤ highs i)
      ∙ ap₂ (λ (x y : ℤ). x +ℤ y)
      (sum-add n lows (λ i. B *ℤ middles i) ∙ ap (λ (z : ℤ). sum n lows +ℤ z) (sum-scale n B middles)) (sum-scale n D highs)
      ∙ ring (sum n lows ∷ sum n middles ∷ sum n highs ∷ []) (v0 ⊕ # 131072 ⊗ v1 ⊕ # 17179869184 ⊗ v2)
      (v0 ⊕ v1 ⊗ # 131072 ⊕ v2 ⊗ # 17179869184) refl)

  pub sums-small : n ≤ 2000000 → SmallSums (digit_sums n a t)
  unfolding digit_sums
  sums-small few = record {
    low = one (λ i. nat_abs (a i) % 131072) (λ i l. (digits-small (nat_abs (a i)) (small i l).area).0);
    middle = one (λ i. nat_abs (a i) / 131072 % 131072) (λ i l. (digits-small (nat_abs (a i)) (small i l).area).1);
    high = one (λ i. nat_abs (a i) / 17179869184) (λ i l. (digits-small (nat_abs (a i)) (small i l).area).2);
  }
    where
      one : (d : ℕ → ℕ) → ((i : ℕ) → i < n → d i ≤ 131072) → nat_abs (sum n (λ i. pos (d i) *ℤ t i)) ≤ 2 ^ 61
      one d h =
          le_trans (sum-small n (131072 * 6291456) (λ i. pos (d i) *ℤ t i) (λ i l.
          within {ρ = pos (d i) ∷ t i ∷ []} (h i l ∷ᵉ (small i l).above ∷ᵉ []ᵉ) (v0 ⊗ v1)))
          (le_trans (mul-le-mul_right (131072 * 6291456) few) (lit≤ tt))
