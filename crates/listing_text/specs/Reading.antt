-- What the input of the listing program says: 01, "Runs to reproduce", as docs/DECISIONS.md reads it ("Listing").
-- Definitions only; laws in `ReadingLaws`.
-- A text is a list of bytes. `read_of text` is the first line that is wrong, or all numbers of the text in their order.
use Rattle.std.specs.Prelude.{Bool, true, false, ◌&&◌, cond, List, [], ◌∷◌, ◌++◌, ℕ, zero, suc, ◌+◌, ◌-◌, ◌*◌, ◌^◌, eqb, ltb, leb, ℤ, pos, neg_ℤ, length, Option, Some, None, Result, Ok, Err}
use Rattle.std.proofs.lemmas.List.Edits.{sets}
use Rattle.listing_text.specs.declared.reading.MalformedLine.{MalformedLine}

-- ---- pieces of a text: it is cut at each mark, and the marks are left out
-- a byte in front of pieces: a mark begins a new one, and any other byte belongs to the first
abbrev pub onto : ℕ → List (List ℕ) → List (List ℕ)
onto b [] = (b ∷ []) ∷ []
onto b (p ∷ ps) = (b ∷ p) ∷ ps

abbrev pub in_front : ℕ → ℕ → List (List ℕ) → List (List ℕ)
in_front mark b ps = cond (eqb b mark) ([] ∷ ps) (onto b ps)

-- `last` are the pieces of the empty text
unfoldable pub cut : ℕ → List (List ℕ) → List ℕ → List (List ℕ)
cut mark last [] = last
cut mark last (b ∷ s) = in_front mark b (cut mark last s)

-- a line ends with byte 10; bytes after the last 10 are a line unless there are none
abbrev pub lines_of : List ℕ → List (List ℕ)
lines_of = cut 10 []

-- a blank, byte 32, stands between two fields: beside another blank, or at an end of the line, there is an empty field
abbrev pub fields_of : List ℕ → List (List ℕ)
fields_of = cut 32 ([] ∷ [])

-- ---- a number: an optional `-`, byte 45, and at least one digit, bytes 48 to 57; within 32 signed bits
abbrev pub is_digit_of : ℕ → Bool
is_digit_of b = leb 48 b && leb b 57

unfoldable pub all_digits : List ℕ → Bool
all_digits [] = true
all_digits (b ∷ s) = is_digit_of b && all_digits s

-- digits from the left, with the value v of those before them
unfoldable pub value_from : ℕ → List ℕ → ℕ
value_from v [] = v
value_from v (b ∷ s) = value_from (v * 10 + (b - 48)) s

unfoldable pub natural_of : List ℕ → Option ℕ
natural_of [] = None
natural_of (b ∷ s) = cond (all_digits (b ∷ s)) (Some (value_from 0 (b ∷ s))) None

abbrev pub positive : Option ℕ → Option ℤ
positive None = None
positive (Some n) = cond (ltb n (2 ^ 31)) (Some (pos n)) None

abbrev pub negative : Option ℕ → Option ℤ
negative None = None
negative (Some n) = cond (leb n (2 ^ 31)) (Some (neg_ℤ (pos n))) None

unfoldable pub number_of : List ℕ → Option ℤ
number_of [] = None
number_of (b ∷ s) = cond (eqb b 45) (negative (natural_of s)) (positive (natural_of (b ∷ s)))

-- ---- a line: a letter and so many numbers, or malformed
abbrev pub followed : Option ℤ → Option (List ℤ) → Option (List ℤ)
followed None rest = None
followed (Some z) None = None
followed (Some z) (Some zs) = Some (z ∷ zs)

-- exactly so many fields, each a number
unfoldable pub numbers_of : ℕ → List (List ℕ) → Option (List ℤ)
numbers_of zero [] = Some []
numbers_of zero (f ∷ fs) = None
numbers_of (suc k) [] = None
numbers_of (suc k) (f ∷ fs) = followed (number_of f) (numbers_of k fs)

abbrev pub is_letter : ℕ → List ℕ → Bool
is_letter letter [] = false
is_letter letter (b ∷ []) = eqb b letter
is_letter letter (b ∷ c ∷ s) = false

abbrev pub labelled : ℕ → ℕ → List (List ℕ) → Option (List ℤ)
labelled letter count [] = None
labelled letter count (f ∷ fs) = cond (is_letter letter f) (numbers_of count fs) None

unfoldable pub line_of : ℕ → ℕ → List ℕ → Option (List ℤ)
line_of letter count line = labelled letter count (fields_of line)

-- ---- all lines, numbered from 1: `S` (byte 83) and six numbers, `C` (67) and two, then `P` (80) and two
abbrev pub letter_of : ℕ → ℕ
letter_of n = cond (eqb n 1) 83 (cond (eqb n 2) 67 80)

abbrev pub count_of : ℕ → ℕ
count_of n = cond (eqb n 1) 6 2

-- the number of the first wrong line, a missing one with the number that it would have; or the numbers of all lines
pub data Reading : Type 0 where
  malformed : ℕ → Reading
  numbers : List ℤ → Reading

-- numbers, and then what the rest says
abbrev pub before : List ℤ → Reading → Reading
before zs (malformed n) = malformed n
before zs (numbers ws) = numbers (zs ++ ws)

abbrev pub line_then : ℕ → Option (List ℤ) → Reading → Reading
line_then n None rest = malformed n
line_then n (Some zs) rest = before zs rest

-- lines from number n on. Lines 1 and 2 have to be there. Line 400 would bring the 401st vertex
unfoldable pub read_from : ℕ → List (List ℕ) → Reading
read_from n [] = cond (ltb n 3) (malformed n) (numbers [])
read_from n (l ∷ ls) = cond (ltb n 400) (line_then n (line_of (letter_of n) (count_of n) l) (read_from (n + 1) ls)) (malformed n)

unfoldable pub read_of : List ℕ → Reading
read_of text = read_from 1 (lines_of text)

-- ---- what `read` answers, and the row of numbers afterwards:
-- as it was, or with the numbers from its start on and the rest as it was (`row-numbers`)
abbrev pub input_of : Reading → Result ℕ MalformedLine
input_of (malformed n) = Err (record { number = n })
input_of (numbers zs) = Ok (length zs)

abbrev pub numbers_row : Reading → List ℤ → List ℤ
numbers_row (malformed n) row = row
numbers_row (numbers zs) row = sets row 0 zs
