-- The rounding is to the nearest whole, of an exact half to the even one; no other number is both; a number's sign changes the
-- sign alone. With the examples of Change 7. Assumes nothing.
use Rattle.std.specs.Prelude.{◌≡◌, ℕ, ◌+◌, ◌*◌, ◌%◌, ◌≤◌}

-- r cubic metres are at most half a one from n, and even where n is an exact half
pub record Rounded (n r : ℕ) : Type 0 where
  pub not-far-below : n ≤ r * 6000000000 + 3000000000
  pub not-far-above : r * 6000000000 ≤ n + 3000000000
  pub even : n % 6000000000 ≡ 3000000000 → r % 2 ≡ 0
