-- Pieces of a text, one after the other: the bytes before a mark, the first line, the first field. Assumes nothing.
use Rattle.std.specs.Prelude.{◌≡◌, ◌≢◌, Bool, true, false, List, [], ◌∷◌, ℕ, ◌≤◌, ◌<◌, eqb, length, take, drop, Option, MatchOption, unwrap_or}
use Rattle.std.specs.List.{AllWithin, HoldsAt}
use Rattle.std.proofs.Common.{refl, sym, ap, add-one, arith, eq-eqb, ne_eqb}
use Rattle.std.proofs.lemmas.Iterator.{index_from_first}
use Rattle.listing_text.specs.Reading.{onto, cut, lines_of, fields_of}
use Rattle.listing_text.specs.ReadingParts.{up_to, fields_behind}

-- ---- the bytes before a mark
pub up-to-le : (mark : ℕ) (s : List ℕ) → up_to mark s ≤ length s
unfolding up_to
up-to-le mark [] = omega arith
up-to-le mark (b ∷ s) = go (eqb b mark) refl (up-to-le mark s)
  where
    go : (t : Bool) → eqb b mark ≡ t → up_to mark s ≤ length s → up_to mark (b ∷ s) ≤ length (b ∷ s)
    go true e l = rw e (omega arith)
    go false e l = rw e (omega arith)

-- what the library's search answers
pub up-to-found : (mark : ℕ) (s : List ℕ) (r : Option ℕ)
    → MatchOption r (AllWithin (λ b. b ≢ mark) s 0 (length s)) (λ i. (i < length s) × HoldsAt (λ b. b ≡ mark) s i × AllWithin (λ b. b ≢ mark) s 0 i)
    → unwrap_or r (length s) ≡ up_to mark s
unfolding up_to
up-to-found mark s r found =
    sym
    (index_from_first (up_to mark) (λ b. b ≡ mark) (λ b. b ≢ mark) refl (λ b xs e. rw (eq-eqb b mark e) refl)
    (λ b xs d. rw (ne_eqb b mark d, add-one) refl) s r found)

-- ---- the first field, and those behind it
abbrev FieldsFirst : List ℕ → Type 0
FieldsFirst s = fields_of s ≡ take (up_to 32 s) s ∷ fields_behind (drop (up_to 32 s) s)

pub fields-first : (s : List ℕ) → fields_of s ≡ take (up_to 32 s) s ∷ fields_behind (drop (up_to 32 s) s)
unfolding cut up_to
fields-first [] = refl
fields-first (b ∷ s) = go (eqb b 32) refl (fields-first s)
  where
    go : (t : Bool) → eqb b 32 ≡ t → FieldsFirst s → FieldsFirst (b ∷ s)
    go true e rest = rw e refl
    go false e rest = rw e (ap (onto b) rest)

-- ---- the first line, and those behind it
abbrev pub lines_behind : List ℕ → List (List ℕ)
lines_behind [] = []
lines_behind (b ∷ s) = lines_of s

abbrev LinesFirst : List ℕ → Type 0
LinesFirst s = lines_of s ≡ take (up_to 10 s) s ∷ lines_behind (drop (up_to 10 s) s)

pub lines-first : (b : ℕ) (s : List ℕ) → lines_of (b ∷ s) ≡ take (up_to 10 (b ∷ s)) (b ∷ s) ∷ lines_behind (drop (up_to 10 (b ∷ s)) (b ∷ s))
unfolding cut up_to
lines-first b [] = go (eqb b 10) refl
  where
    go : (t : Bool) → eqb b 10 ≡ t → LinesFirst (b ∷ [])
    go true e = rw e refl
    go false e = rw e refl
lines-first b (c ∷ s) = go (eqb b 10) refl (lines-first c s)
  where
    go : (t : Bool) → eqb b 10 ≡ t → LinesFirst (c ∷ s) → LinesFirst (b ∷ c ∷ s)
    go true e rest = rw e refl
    go false e rest = rw e (ap (onto b) rest)
