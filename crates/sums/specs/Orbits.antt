-- Orbits counted. f permutes the numbers below n and keeps each number's class; each class below m has one chosen
-- number. Then the orbits of the chosen numbers are together at most n long, and exactly n long just where every number
-- is met from the chosen one of its class.
-- So a sweep that adds up lengths, with no memory of what it met, decides whether the orbits hold every number. Assumes nothing.
use Rattle.std.specs.Prelude.{◌≡◌, refl, ◌≢◌, ◌⊎◌, cond, ltb}
use Rattle.std.proofs.Common.{sym, ◌∙◌, ap, subst, inl, inr, lt-ltb, le-ltb}
use Prim.Native.Nat.{ℕ, zero, suc, ◌+◌, ◌-◌, ◌<◌, ◌≤◌}
use Rattle.std.proofs.Math.Decide.{ℕ_discrete, dec_lt}
use native.Mathlib.Omega.{arith}
use Rattle.sums.specs.Iterate.{iter, Inverse, Period, period_below}
use Rattle.sums.specs.Listed.{Listed, pigeonhole}

-- the orbits of r 0 .. r (m - 1), in total
unfoldable pub orbit_total : ℕ → (ℕ → ℕ) → (ℕ → ℕ) → ℕ → ℕ
orbit_total n f r zero = zero
orbit_total n f r (suc m) = orbit_total n f r m + period_below n f (r m)

-- f keeps the classes, and r chooses in each
pub record Classes (n m : ℕ) (f g class r : ℕ → ℕ) : Type 0 where
  pub permutes : Inverse n f g
  pub keeps : (a : ℕ) → a < n → class (f a) ≡ class a
  pub known : (a : ℕ) → a < n → class a < m
  pub chosen : (c : ℕ) → c < m → r c < n
  pub of : (c : ℕ) → c < m → class (r c) ≡ c
