-- Tests over the numbers below n, that compute: all of them pass, one of them passes, the least that passes, and how many pass.
-- Each comes with its laws both ways; a table's rule is then one computed test (`all-below→ n p tt`). Assumes nothing.
use Rattle.std.specs.Prelude.{◌≡◌, refl, ◌≢◌, ◌⊎◌, Bool, true, false, not, ◌&&◌, ◌||◌, T, eqb, ltb, leb}
use Rattle.std.proofs.Common.{sym, ◌∙◌, ap, inl, inr, le_refl, add-zero, add-suc, add-one, eqb→eq, ltb→lt, leb→le, T_not}
use Rattle.std.proofs.Math.Path.{subst}
use Prim.Native.Nat.{ℕ, zero, suc, ◌+◌, ◌-◌, ◌<◌, ◌≤◌}
use Rattle.std.proofs.Math.Decide.{ℕ_discrete, dec_lt}
use native.Mathlib.Omega.{arith}
use Rattle.std.proofs.Math.Dec.{not_T}
use Rattle.sums.specs.Bit.{bit, test-ext}
use Rattle.sums.specs.Put.{put}

-- ---- all of them pass
unfoldable pub all_below : ℕ → (ℕ → Bool) → Bool
all_below zero p = true
all_below (suc n) p = p n && all_below n p

-- ---- one of them passes
unfoldable pub any_below : ℕ → (ℕ → Bool) → Bool
any_below zero p = false
any_below (suc n) p = p n || any_below n p

-- ---- the least that passes, or n where none does. The search is handed on as a function, so that nothing past the least is computed
abbrev pub later : Bool → ((ℕ → Bool) → ℕ) → (ℕ → Bool) → ℕ
later true k p = zero
later false k p = suc (k p)

unfoldable pub first_below : ℕ → (ℕ → Bool) → ℕ
first_below zero p = zero
first_below (suc n) p = later (p zero) (first_below n) (λ i. p (suc i))

-- what the least is: at most n; it passes, where it is less; and nothing before it passes
pub record Least (n : ℕ) (p : ℕ → Bool) (k : ℕ) : Type 0 where
  pub at_most : k ≤ n
  pub passes : k < n → T (p k)
  pub before : (j : ℕ) → j < k → T (p j) → ⊥

-- ---- how many pass
unfoldable pub count : ℕ → (ℕ → Bool) → ℕ
count zero p = zero
count (suc n) p = bit (p n) + count n p
