-- The sum over the triangles as the loop takes it: a doubled area has three digits base 2 ^ 17, and for each digit there is
-- a sum of its products with the heights above the level. Definitions only; laws in `DigitSumsLaws`.
use Rattle.std.specs.Prelude.{ℕ, ◌/◌, ◌%◌, ◌^◌, ◌≤◌, ℤ, pos, nat_abs, ◌+ℤ◌, ◌*ℤ◌, ◌≤ℤ◌}
use Rattle.sums.specs.Sum.{sum}
use Rattle.volume.specs.declared.DigitSums.{DigitSums}

-- ---- the digits of an area
abbrev pub low_digit : ℤ → ℤ
low_digit a = pos (nat_abs a % 131072)

abbrev pub middle_digit : ℤ → ℤ
middle_digit a = pos (nat_abs a / 131072 % 131072)

abbrev pub high_digit : ℤ → ℤ
high_digit a = pos (nat_abs a / 17179869184)

-- ---- the sums
-- over n triangles with the doubled areas a and the heights above the level t
unfoldable pub digit_sums : ℕ → (ℕ → ℤ) → (ℕ → ℤ) → DigitSums
digit_sums n a t = record {
  low = sum n (λ i. low_digit (a i) *ℤ t i);
  middle = sum n (λ i. middle_digit (a i) *ℤ t i);
  high = sum n (λ i. high_digit (a i) *ℤ t i);
}

-- one triangle more
unfoldable pub plus_triangle : DigitSums → ℤ → ℤ → DigitSums
plus_triangle s a t = record {
  low = s.low +ℤ low_digit a *ℤ t;
  middle = s.middle +ℤ middle_digit a *ℤ t;
  high = s.high +ℤ high_digit a *ℤ t;
}

-- the number that they make up
unfoldable pub whole_of : DigitSums → ℤ
whole_of s = s.low +ℤ s.middle *ℤ pos 131072 +ℤ s.high *ℤ pos 17179869184

-- ---- sizes
-- a triangle of an accepted mesh
pub record SmallTriangle (a t : ℤ) : Type 0 where
  pub positive : pos 0 ≤ℤ a
  pub area : nat_abs a ≤ 2 ^ 50
  pub above : nat_abs t ≤ 6291456

-- one product, and the sum that it is added to
pub record SmallProduct (s : ℤ) (d : ℕ) (t : ℤ) : Type 0 where
  pub sum : nat_abs s ≤ 2 ^ 61
  pub digit : d ≤ 131072
  pub above : nat_abs t ≤ 6291456

-- two million products of a digit, each at most 131072 * 6291456
pub record SmallSums (s : DigitSums) : Type 0 where
  pub low : nat_abs s.low ≤ 2 ^ 61
  pub middle : nat_abs s.middle ≤ 2 ^ 61
  pub high : nat_abs s.high ≤ 2 ^ 61
