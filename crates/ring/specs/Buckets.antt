-- BUCKETS: n buckets of w places each, on a circle of N = n * w. The point of bucket i is i * w. The buckets whose
-- points a segment holds are a range of numbers, from the ceiling of its first angle up to that of its second, both
-- taken from n to 0; no such range is empty where it should be whole, since no segment is wide. Assumes nothing.
use Rattle.std.specs.Prelude.{◌≡◌, refl, ◌≢◌, ◌⊎◌, Bool, true, false, not, cond, ◌&&◌, ◌||◌, ℕ, suc, ◌+◌, ◌-◌, ◌*◌, ◌/◌, ◌%◌, ◌<◌, ◌≤◌, T, ltb, leb}
use Rattle.std.proofs.Common.{◌∙◌, ap, inl, inr, le_refl, le-div_iff_mul-le, div-lt_iff_lt-mul, mul-le-mul_right, mod-eq_of_lt, arith}
use Rattle.std.proofs.Math.Nat.{mod_self}
use Rattle.std.proofs.Math.Decide.{ℕ_discrete, dec_lt}
use Rattle.segment.specs.Arc.{gap, holds, wide}
use Rattle.ring.specs.Segments.{Holds, plain, late, early}
use Rattle.sums.specs.Bit.{bit}
use Rattle.sums.proofs.BitLaws.{Tells, bit-no, le?, lt?, sure}

-- the ceiling of x / w; the number of the first bucket whose point is not below x, from n taken to 0
unfoldable pub ceiling : ℕ → ℕ → ℕ
ceiling w x = (x + (w - 1)) / w

-- the buckets that the code's loops write, from L up to R, or from L on and up to R
unfoldable pub within : ℕ → ℕ → ℕ → Bool
within i L R = cond (leb L R) (leb L i && ltb i R) (leb L i || ltb i R)

-- ---- a range as facts
pub data Range (i L R : ℕ) : Type 0 where
  inside : L ≤ i → i < R → Range i L R
  above : R < L → L ≤ i → Range i L R
  below : R < L → i < R → Range i L R

-- n buckets of w on a circle of N
pub record Sized (N n w : ℕ) : Type 0 where
  pub eight : 8 ≤ n
  pub room : 0 < w
  pub all : N ≡ n * w

-- the segment from a to b is proper, not wide, and on the circle
pub record NarrowSegment (N a b : ℕ) : Type 0 where
  pub a_in : a ≤ N
  pub b-in : b ≤ N
  pub apart : a ≢ b
  pub narrow : T (wide N a b) → ⊥
