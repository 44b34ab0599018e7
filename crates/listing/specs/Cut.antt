-- What the program lists of a text. Definitions only.
use Rattle.std.specs.Prelude.{Bool, true, false, List, [], ◌∷◌, ◌++◌, ℕ, take, leb, length}

abbrev pub cut_by : Bool → ℕ → List ℕ → List ℕ
cut_by true room text = text
cut_by false room text = take room text ++ (0 ∷ [])

-- a text for which there is room whole, and of a longer one what there is room for and a zero
abbrev pub cut : ℕ → List ℕ → List ℕ
cut room text = cut_by (leb (length text) room) room text
