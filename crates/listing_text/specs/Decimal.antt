-- The digits of a number as bytes, and rows of bytes that are written from a place on. Definitions only; laws in
-- `DecimalLaws` and `RowLaws`.
use Rattle.std.specs.Prelude.{Bool, true, false, List, [], ◌∷◌, ◌++◌, ◌≡◌, ℕ, zero, suc, ◌+◌, ◌/◌, ◌%◌, min, max, ltb, ℤ, pos, negsuc, length}
use Rattle.std.proofs.lemmas.List.Edits.{sets}

-- ---- digits: a number below ten is one digit, any other the digits of its tenth and its last digit (`decimal-small`, `decimal-large`)
abbrev pub digits_by : Bool → (ℕ → List ℕ) → ℕ → List ℕ
digits_by true more n = (48 + n) ∷ []
digits_by false more n = more (n / 10) ++ ((48 + n % 10) ∷ [])

-- with fuel
unfoldable pub decimal_from : ℕ → ℕ → List ℕ
decimal_from zero n = []
decimal_from (suc fuel) n = digits_by (ltb n 10) (decimal_from fuel) n

unfoldable pub decimal : ℕ → List ℕ
decimal n = decimal_from (suc n) n

-- a `-`, byte 45, before a negative number
abbrev pub signed_decimal : ℤ → List ℕ
signed_decimal (pos n) = decimal n
signed_decimal (negsuc n) = 45 ∷ decimal (suc n)

-- ---- a row of bytes that is written from a place on
-- the place behind so many bytes; one past the row's end, length + 1, says that some did not fit
abbrev pub place_after : ℕ → ℕ → ℕ → ℕ
place_after length at n = max at (min (at + n) (length + 1))

-- the bytes stand in the row from `at` on, as far as there is room, and nothing else is changed
pub record Appended (row : List ℕ) (at : ℕ) (bytes row' : List ℕ) (at' : ℕ) : Type 0 where
  pub stored : row' ≡ sets row at bytes
  pub place : at' ≡ place_after (length row) at (length bytes)
