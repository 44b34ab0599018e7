-- Change 1: "that volume in cubic metres (10^9 mm³), rounded to the nearest whole", and Change 7: "rounds a half cubic metre to
-- the even whole: 2.5 gives 2, 3.5 gives 4, -2.5 gives -2", "decided on six times the volume without any float". The number given
-- is six times the volume in cubic millimetres, so 6,000,000,000 of it are one cubic metre. Definitions only.
use Rattle.std.specs.Prelude.{ℕ, ◌+◌, ◌/◌, ◌%◌, cond, ℤ, pos, ◌==◌, unsigned_abs}
use Rattle.int128.specs.Int128.{with_sign}

-- without a sign: an exact half gives the whole below it, and one more where that is odd; else a half is added, the fraction dropped
unfoldable pub half_to_even : ℕ → ℕ
half_to_even n = cond (n % 6000000000 == 3000000000) (n / 6000000000 + n / 6000000000 % 2) ((n + 3000000000) / 6000000000)

unfoldable pub cubic_metres_of : ℤ → ℤ
cubic_metres_of six = with_sign six (pos (half_to_even (unsigned_abs six)))
