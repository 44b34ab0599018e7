-- A set of the pending list's entries, kept as bits in the words at the row's end, which the list does not use. Definitions only; laws in
-- `BitLaws` and `SetLaws`.
-- Where there is a set, it answers whether an edge is in the list; the list itself is what `Pending` says in either case.
use Rattle.std.specs.Prelude.{Bool, true, false, List, [], ◌∷◌, ◌≡◌, ℕ, ◌+◌, ◌-◌, ◌/◌, ◌%◌, ◌^◌, ◌≤◌, ◌<◌, eqb, length, get_or}
use Rattle.pending.specs.declared.PendingList.{PendingList}
use Rattle.pending.specs.Pending.{pending_of, contains, Holds}

-- bit k of a word
unfoldable pub bit_of : ℕ → ℕ → ℕ
bit_of w k = w / 2 ^ k % 2

-- how many words a set of the numbers below `edges` takes
abbrev pub set_words : ℕ → ℕ
set_words edges = edges / 32 + 1

-- the place of the word that has the bit of x: the words are counted from the row's end
abbrev pub word_at : List ℕ → ℕ → ℕ
word_at row x = length row - 1 - x / 32

-- the set has x
unfoldable pub is_marked : List ℕ → ℕ → Bool
is_marked row x = eqb (bit_of (get_or row (word_at row x) 0) (x % 32)) 1

-- no entry stands twice
unfoldable pub Once : List ℕ → Type 0
Once [] = Unit {0}
Once (x ∷ l) = (contains x l ≡ false) × Once l

-- The words at the row's end, past its first n entries, are a set of these, of the numbers below `edges`
pub record Marks (row : List ℕ) (n edges : ℕ) : Type 0 where
  pub room : n + set_words edges ≤ length row
  pub once : Once (pending_of row n)
  pub small : (x : ℕ) → contains x (pending_of row n) ≡ true → x < edges
  pub each : (x : ℕ) → x < edges → is_marked row x ≡ contains x (pending_of row n)

-- what the list's value says of the row: there is a set, or not
abbrev pub SetOf : List ℕ → PendingList → ℕ → Type 0
SetOf row s edges = s.set ≡ true → Marks row s.length edges

-- from one row and value to another: whatever list was held, f of it is held
pub record Becomes (row : List ℕ) (s : PendingList) (row' : List ℕ) (s' : PendingList) (edges : ℕ) (f : List ℕ → List ℕ) : Type 0 where
  pub list : (l : List ℕ) → Holds row s.length l → Holds row' s'.length (f l)
  pub set : SetOf row' s' edges

-- an entry is there, and the set is right: the last one can be taken
pub record ToPop (row : List ℕ) (s : PendingList) (edges : ℕ) : Type 0 where
  pub some : 0 < s.length
  pub fits : s.length ≤ length row
  pub set : SetOf row s edges

-- the last entry, x, has been taken
pub record LastTaken (row : List ℕ) (s : PendingList) (row' : List ℕ) (x : ℕ) (s' : PendingList) (edges : ℕ) : Type 0 where
  pub entry : pending_of row s.length ≡ x ∷ pending_of row (s.length - 1)
  pub rest : Holds row' s'.length (pending_of row (s.length - 1))
  pub set : SetOf row' s' edges

-- ---- while a set is made
-- zeros from `from` up to `to`, and before them what stood there
pub record Cleared (row row' : List ℕ) (from to : ℕ) : Type 0 where
  pub same : length row' ≡ length row
  pub before : (i : ℕ) → i < from → get_or row' i 0 ≡ get_or row i 0
  pub zeros : (i : ℕ) → from ≤ i → i < to → get_or row' i 0 ≡ 0

-- of n entries, which stay as they were, the first i are in the set
pub record MarkedTo (row row' : List ℕ) (i n edges : ℕ) : Type 0 where
  pub same : length row' ≡ length row
  pub most : i ≤ n
  pub kept : pending_of row' n ≡ pending_of row n
  pub room : n + set_words edges ≤ length row
  pub once : Once (pending_of row' i)
  pub small : (x : ℕ) → contains x (pending_of row' i) ≡ true → x < edges
  pub each : (x : ℕ) → x < edges → is_marked row' x ≡ contains x (pending_of row' i)
