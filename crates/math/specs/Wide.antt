-- Numbers by three digits base 2 ^ 26, and their sign. A digit but the first is below 2 ^ 26 in absolute value, and may have either sign.
-- Assumes nothing.
use Rattle.std.specs.Prelude.{◌≡◌, ℕ, zero, suc, ◌+◌, ◌/◌, ◌≤◌, ℤ, negsuc, nat_abs, ◌+ℤ◌, ◌*ℤ◌}
use Rattle.std.proofs.Math.IntN.{pos}
use Rattle.math.specs.declared.wide.Digits.{Digits}

-- ---- the sign, as 1, 0 or -1
unfoldable pub sgn : ℤ → ℤ
sgn (pos zero) = pos 0
sgn (pos (suc n)) = pos 1
sgn (negsuc n) = negsuc 0

-- ---- three digits
unfoldable pub wide_of : ℤ → ℤ → ℤ → ℤ
wide_of hi mid lo = hi *ℤ pos 4503599627370496 +ℤ (mid *ℤ pos 67108864 +ℤ lo)

-- ---- one number by two digits
pub record SplitOf (x : ℤ) (d : Digits) : Type 0 where
  pub is : d.hi *ℤ pos 67108864 +ℤ d.lo ≡ x
  pub hi : nat_abs d.hi ≤ nat_abs x / 67108864 + 1
  pub lo : nat_abs d.lo ≤ 67108863

-- ---- the digits of a number of at most 2 ^ 51
pub record TwoDigits (d : Digits) : Type 0 where
  pub hi : nat_abs d.hi ≤ 33554433
  pub lo : nat_abs d.lo ≤ 67108863

-- ---- a sum of two products, by digits
unfoldable pub high_of : Digits → Digits → Digits → Digits → ℤ
high_of x y z w = x.hi *ℤ y.hi +ℤ z.hi *ℤ w.hi

unfoldable pub middle_of : Digits → Digits → Digits → Digits → ℤ
middle_of x y z w = x.hi *ℤ y.lo +ℤ x.lo *ℤ y.hi +ℤ (z.hi *ℤ w.lo +ℤ z.lo *ℤ w.hi)

unfoldable pub low_of : Digits → Digits → Digits → Digits → ℤ
low_of x y z w = x.lo *ℤ y.lo +ℤ z.lo *ℤ w.lo

-- ---- the four numbers that are multiplied: at most 2 ^ 51
pub record AtMost51 (x : ℤ) : Type 0 where
  pub abs : nat_abs x ≤ 2251799813685248

unfoldable pub total_of : ℤ → ℤ → ℤ → ℤ → ℕ
total_of x y z w = nat_abs x + nat_abs y + (nat_abs z + nat_abs w)

-- ---- the sign of three digits: a first digit above what the others can add to it
unfoldable pub reach_of : Digits → Digits → Digits → Digits → ℕ
reach_of x y z w = nat_abs x.hi + nat_abs y.hi + (nat_abs z.hi + nat_abs w.hi) + 2
