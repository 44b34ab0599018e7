-- The pending list in a lent row: `edges` of `legalize_edge` and `edges_to_validate` of `legalize_edges_after_removal`.
-- Definitions only; laws in `PendingLaws`.
-- A list has its last entry, which is taken first, as its head.
use Rattle.std.specs.Prelude.{Bool, false, ◌||◌, cond, List, [], ◌∷◌, ◌≡◌, ℕ, zero, suc, ◌≤◌, ◌<◌, eqb, length, get_or}

-- the first n entries of a row as a list
unfoldable pub pending_of : List ℕ → ℕ → List ℕ
pending_of row zero = []
pending_of row (suc n) = get_or row n 0 ∷ pending_of row n

unfoldable pub contains : ℕ → List ℕ → Bool
contains u [] = false
contains u (v ∷ l) = eqb u v || contains u l

-- `push_if_not_contained`
unfoldable pub push_if_not_contained : ℕ → List ℕ → List ℕ
push_if_not_contained u l = cond (contains u l) l (u ∷ l)

-- the row's first n entries are the list l; an n past the row's end says that l does not fit the row
pub record Holds (row : List ℕ) (n : ℕ) (l : List ℕ) : Type 0 where
  pub fits : n ≤ length row → pending_of row n ≡ l
  pub over : length row < n → length row < length l
