-- What the parts of the code that reads answer, in terms of `Reading`. Definitions only.
use Rattle.std.specs.Prelude.{Bool, true, false, cond, List, [], ◌∷◌, ◌≡◌, ℕ, suc, min, eqb, ℤ, Option, Some, None, Result}
use Rattle.std.proofs.lemmas.List.Edits.{sets}
use Rattle.listing_text.specs.declared.reading.MalformedLine.{MalformedLine}
use Rattle.listing_text.specs.Reading.{fields_of, Reading, input_of}

-- how many bytes stand before the first mark
unfoldable pub up_to : ℕ → List ℕ → ℕ
up_to mark [] = 0
up_to mark (b ∷ s) = cond (eqb b mark) 0 (suc (up_to mark s))

-- the fields behind the end of a field: none at the end of the line, and else those behind the blank
abbrev pub fields_behind : List ℕ → List (List ℕ)
fields_behind [] = []
fields_behind (b ∷ s) = fields_of s

-- a natural number in 32 bits; what is too large for them is the greatest
abbrev pub saturated : Option ℕ → Option ℕ
saturated None = None
saturated (Some n) = Some (min n 4294967295)

-- whether there are numbers, which then are all that a row holds
abbrev pub is_there : Option (List ℤ) → Bool
is_there None = false
is_there (Some zs) = true

pub record Stored (o : Option (List ℤ)) (row : List ℤ) (r : Bool) : Type 0 where
  pub answer : r ≡ is_there o
  pub numbers : (zs : List ℤ) → o ≡ Some zs → row ≡ zs

-- the same of a whole text, whose numbers stand in the row from its start on
pub record StoredAll (row : List ℤ) (o : Reading) (row' : List ℤ) (r : Result ℕ MalformedLine) : Type 0 where
  pub answer : r ≡ input_of o
  pub numbers : (zs : List ℤ) → o ≡ Reading.numbers zs → row' ≡ sets row 0 zs
