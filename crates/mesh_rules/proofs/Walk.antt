-- A walk by f from a, counted until it comes back. f permutes the numbers below n, so the count is the period, which is at most n, and the walk stays below n.
-- A loop knows m, which is at least n, and not n itself: the period is the same. Assumes nothing.
use mathlib.Core.Path.{◌≡◌, sym, ◌∙◌, ap, subst}
use mathlib.Core.Logic.{◌≢◌}
use Prim.Native.Nat.{ℕ, suc, ◌+◌, ◌<◌, ◌≤◌}
use native.Mathlib.Decide.{dec_lt}
use native.Mathlib.Numerals.{add-one}
use native.Mathlib.Omega.{arith}
use lib.Dec.{eqb}
use Rattle.sums.proofs.BitLaws.{eq_test}
use Rattle.sums.proofs.BoundedLaws.{first-below-is, first-below-before}
use Rattle.sums.specs.Iterate.{iter, Inverse, Period, period_below}
use Rattle.sums.proofs.IterateLaws.{iter-last, iter-below, period-is, period-le}

-- e is k steps from a, and the walk has not come back before
pub record Walked (m : ℕ) (f : ℕ → ℕ) (a e k : ℕ) : Type 0 where
  pub at : e ≡ iter k f a
  pub positive : 0 < k
  pub within : k ≤ period_below m f a

module _ {n : ℕ} {f g : ℕ → ℕ} (inv : Inverse n f g) {a : ℕ} (l : a < n) {m : ℕ} (more : n ≤ m) where
  same-period : period_below m f a ≡ period_below n f a
  unfolding period_below
  same-period = ap suc (first-below-is m (λ k. eqb (iter (suc k) f a) a) (let p = period-le inv l (period-is inv l) in omega arith)
      (λ u. eq_test (period-is inv l).back) (first-below-before n (λ k. eqb (iter (suc k) f a) a)))

  P : Period f a (period_below m f a)
  P = rw same-period (period-is inv l)

  pub walk_start : {e : ℕ} → e ≡ f a → Walked m f a e 1
  walk_start q = record { at = q; positive = omega arith; within = P.positive }

  module _ {e k : ℕ} (W : Walked m f a e k) where
    pub walk-below : e < n
    walk-below = subst (λ (z : ℕ). z < n) (sym W.at) (iter-below inv k l)

    pub walk_end : e ≡ a → k ≡ period_below n f a
    walk_end q = go (dec_lt k (period_below m f a)) ∙ same-period
      where
        go : Dec (k < period_below m f a) → k ≡ period_below m f a
        go (yes u) = absurd (P.least k W.positive u (sym W.at ∙ q))
        go (no u) = let w = W.within in omega arith

    pub walk_before : e ≢ a → k < period_below m f a
    walk_before d = go (dec_lt k (period_below m f a))
      where
        go : Dec (k < period_below m f a) → k < period_below m f a
        go (yes u) = u
        go (no u) = let w = W.within in let q : k ≡ period_below m f a = omega arith in absurd (d (W.at ∙ ap (λ (j : ℕ). iter j f a) q ∙ P.back))

    -- so the count fits wherever n does
    pub walk-most : e ≢ a → k + 1 ≤ n
    walk-most d = let b = walk_before d in let u = period-le inv l P in omega arith

    pub walk-on : e ≢ a → {d : ℕ} → d ≡ f e → Walked m f a d (k + 1)
    walk-on u {d} q = record {
      at = q ∙ ap f W.at ∙ sym (iter-last k f a) ∙ ap (λ (j : ℕ). iter j f a) (sym (add-one k));
      positive = omega arith;
      within = let b = walk_before u in omega arith;
    }
