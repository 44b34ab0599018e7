-- Whole numbers in floats: up to 2 ^ prec a difference, a sum and a product of whole numbers are exact. `Whole x z`
-- says that x is the whole number z, a zero of either sign included.
-- Assumes nothing.
use Rattle.std.specs.Prelude.{◌≡◌, Bool, true, false, ℕ, ℤ, pos, neg_ℤ, Float}
use Rattle.std.specs.Float.Ieee.Exact.{HasValue}

abbrev pub signed : Bool → ℕ → ℤ
signed false n = pos n
signed true n = neg_ℤ (pos n)

pub record Whole (x : Float) (z : ℤ) : Type 0 where
  pub sign : Bool
  pub size : ℕ
  pub value : HasValue x sign size 1
  pub is : signed sign size ≡ z
