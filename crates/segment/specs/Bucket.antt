-- Buckets: floor and ceiling of an angle's exact value times their count, and the same on whole numbers of 2 ^ -53. Definitions only.
use Rattle.std.specs.Prelude.{ℕ, ◌+◌, ◌-◌, ◌*◌, ◌/◌, ◌%◌, ◌^◌, ◌≤◌, ◌≡◌, Float}
use Rattle.std.specs.Float.{nan, inf, fin}
use Rattle.std.specs.Float.Ieee.{up, down}

-- 01: "Buckets start at 8 and number 8 times a power of two"; 2 ^ 20 suffice for 1,000,000 vertices
pub record Buckets (n : ℕ) : Type 0 where
  pub power : (j : ℕ) × (n ≡ 8 * 2 ^ j)
  pub most : n ≤ 2 ^ 20

-- x times n, rounded down and up, for an x that is not negative
unfoldable pub floor_times : Float → ℕ → ℕ
floor_times nan n = 0
floor_times (inf s) n = 0
floor_times (fin s m e) n = m * up e * n / down e

unfoldable pub ceil_times : Float → ℕ → ℕ
ceil_times nan n = 0
ceil_times (inf s) n = 0
ceil_times (fin s m e) n = (m * up e * n + (down e - 1)) / down e

-- `floored_bucket` and `ceiled_bucket` of 000: "((angle.0 * n).floor()) % n"
abbrev pub floored_bucket : Float → ℕ → ℕ
floored_bucket a n = floor_times a n % n

abbrev pub ceiled_bucket : Float → ℕ → ℕ
ceiled_bucket a n = ceil_times a n % n

-- how many times 2 ^ -53 a bucket is wide
abbrev pub width : ℕ → ℕ
width n = 2 ^ 53 / n

-- the buckets of a whole number k of 2 ^ -53
abbrev pub floor_of : ℕ → ℕ → ℕ
floor_of k n = k / width n % n

abbrev pub ceil_of : ℕ → ℕ → ℕ
ceil_of k n = (k + (width n - 1)) / width n % n

-- n buckets are each 2 ^ s wide
pub record BucketShift (s n : ℕ) : Type 0 where
  pub shift : 2 ^ s ≡ width n
  pub low : s ≤ 50
