-- Signs of a sum and of its numbers. Assumes nothing.
use Rattle.std.specs.Prelude.{◌≡◌, refl, [], ◌∷◌, ℕ, zero, suc, ◌<◌, ℤ, pos, neg_ℤ, ◌+ℤ◌, ◌<ℤ◌, ◌≤ℤ◌}
use Rattle.std.proofs.Common.{sym, subst, le_refl, arith}
use Rattle.std.proofs.Math.Decide.{ℕ_discrete}
use Rattle.std.proofs.Math.Dec.{not_T}
use Rattle.std.specs.Int.Signed.{lt_z, lt_z_yes, lt_z_no}
use Rattle.algebra.specs.Ring.{◌⊕◌, ⊝◌}
use Rattle.algebra.proofs.RingLaws.{#◌, v0, v1}
use Rattle.algebra.proofs.Sign.{◌+⁺◌, pos-in, nn-in, lt_in, le_in, lt_by, refute}
use Rattle.sums.proofs.BitLaws.{sure}
use Rattle.sums.specs.Bounded.{any_below}
use Rattle.sums.proofs.BoundedLaws.{any-below→, none-below→}
use Rattle.sums.specs.Sum.{sum}
use Rattle.sums.proofs.SumLaws.{sum-neg, sum_nonneg}

-- a sum below 0 has a number below 0
pub sum-some-negative : (n : ℕ) (f : ℕ → ℤ) → sum n f <ℤ pos 0 → (i : ℕ) × (i < n) × (f i <ℤ pos 0)
sum-some-negative n f h =
    let r = any-below→ n (λ i. lt_z (f i) (pos 0)) (sure (any_below n (λ i. lt_z (f i) (pos 0)))
    (λ none. let k = sum_nonneg n f (λ i l. lt_z_no (not_T (lt_z (f i) (pos 0)) (none-below→ n (λ i. lt_z (f i) (pos 0)) none i l))) in
    let ρ = sum n f ∷ [] in refute (lt_in ρ v0 (# 0) h +⁺ nn-in ρ v0 k) tt)) in
    (r.0, r.1, lt_z_yes r.2)

pub sum-some-positive : (n : ℕ) (f : ℕ → ℤ) → pos 0 <ℤ sum n f → (i : ℕ) × (i < n) × (pos 0 <ℤ f i)
sum-some-positive n f h =
    let ρ = sum n f ∷ [] in
    let r = sum-some-negative n (λ i. neg_ℤ (f i)) (subst (λ (z : ℤ). z <ℤ pos 0) (sym (sum-neg n f)) (lt_by (pos-in ρ v0 h) (⊝ v0) (# 0) refl)) in
    let σ = f r.0 ∷ [] in
    (r.0, r.1, lt_by (lt_in σ (⊝ v0) (# 0) r.2) (# 0) v0 refl)

-- numbers of at most 0, one of them below: their sum is below
pub sum-falls : (n : ℕ) (f : ℕ → ℤ) → ((i : ℕ) → i < n → f i ≤ℤ pos 0) → {k : ℕ} → k < n → f k <ℤ pos 0 → sum n f <ℤ pos 0
unfolding sum
sum-falls zero f most l h = absurd (omega arith)
sum-falls (suc n) f most {k} l h = go (ℕ_discrete k n) (λ m. sum-falls n f (λ i m. most i (omega arith)) {k = k} m h)
  where
    low : (n : ℕ) → ((i : ℕ) → i < n → f i ≤ℤ pos 0) → sum n f ≤ℤ pos 0
    low n m = lt_z_no (not_T (lt_z (pos 0) (sum n f)) (λ t. let r = sum-some-positive n f (lt_z_yes t) in
        let ρ = f r.0 ∷ [] in refute (pos-in ρ v0 r.2 +⁺ le_in ρ v0 (# 0) (m r.0 r.1)) tt))

    go : Dec (k ≡ n) → (k < n → sum n f <ℤ pos 0) → (sum n f +ℤ f n) <ℤ pos 0
    go (yes e) ih = let ρ = sum n f ∷ f n ∷ [] in
        lt_by (lt_in ρ v1 (# 0) (subst (λ (j : ℕ). f j <ℤ pos 0) e h) +⁺ le_in ρ v0 (# 0) (low n (λ i m. most i (omega arith)))) (v0 ⊕ v1) (# 0) refl
    go (no d) ih = let ρ = sum n f ∷ f n ∷ [] in
        lt_by (lt_in ρ v0 (# 0) (ih (omega arith)) +⁺ le_in ρ v1 (# 0) (most n (le_refl (suc n)))) (v0 ⊕ v1) (# 0) refl
