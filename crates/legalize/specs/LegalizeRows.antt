-- What the functions ask of the rows that are lent, and what they ensure. Definitions only.
use Rattle.std.specs.Prelude.{Bool, false, cond, List, ◌≡◌, ℕ, ◌+◌, ◌-◌, ◌*◌, ◌^◌, ◌<◌, ◌≤◌, ℤ, length, get_or}
use Rattle.conflicts.specs.FlipsWithin.{FlipsWithin}
use Rattle.mesh.specs.declared.Counts.{Counts}
use Rattle.mesh.specs.Circle.{breaks_circle}
use Rattle.dcel.specs.Rows.{links_of, position_of, There}
use Rattle.circle_test.specs.GoodRows.{GoodRows, CircleReady}
use Rattle.pending.specs.declared.PendingList.{PendingList}
use Rattle.pending.specs.Pending.{pending_of, Holds}
use Rattle.pending.specs.Set.{SetOf, Becomes, ToPop}
use Rattle.legalize.specs.declared.Entry.{Entry}
use Rattle.legalize.specs.declared.Legalized.{Legalized}
use Rattle.legalize.specs.Legalize.{Legalizing, entry_edge, pushed}
use Rattle.legalize.specs.Turns.{EntriesIn}

-- ---- the list's value
-- a list of n entries without a set
abbrev pub plain : ℕ → PendingList
plain n = record { length = n; looks = 0; set = false }

-- ---- pushes
-- both halves of an entry's edge are in the row of half-edges
pub record PushReady (k : Entry) (h : List ℕ) (x : ℕ) : Type 0 where
  pub small : 2 * entry_edge k x + 1 < 2 ^ 32
  pub there : There h (2 * entry_edge k x + 1)

-- the pending row before and after the pushes of a flip, whatever the rows of out edges and faces, which the pushes do not read
abbrev pub Pushes : Entry → List ℕ → ℕ → List ℕ → PendingList → List ℕ → PendingList → ℕ → Type 0
Pushes k h x row s row' s' edges = (o a : List ℕ) → Becomes row s row' s' edges (pushed k (links_of o h a) x)

-- ---- one entry
pub record PopReady (k : Entry) (q : List ℤ) (h row : List ℕ) (s : PendingList) (edges : ℕ) : Type 0 where
  pub pending : ToPop row s edges
  pub circle : CircleReady q h (entry_edge k (get_or row (s.length - 1) 0))

-- an entry that was taken from the pending list: its edge, whether that is to be flipped, and the list after the pushes
pub record Popped : Type 0 where
  pub edge : ℕ
  pub flip : Bool
  pub list : PendingList

-- the last entry is taken, its edge tested, and what its flip pushes is pushed
pub record Pops (k : Entry) (q : List ℤ) (h row : List ℕ) (s : PendingList) (row' : List ℕ) (r : Popped) (edges : ℕ) : Type 0 where
  pub edge : r.edge ≡ entry_edge k (get_or row (s.length - 1) 0)
  pub flip : (o a : List ℕ) → r.flip ≡ breaks_circle (links_of o h a) (position_of q) (entry_edge k (get_or row (s.length - 1) 0))
  pub pending : (o a : List ℕ)
      → Holds row' r.list.length (cond r.flip
      (pushed k (links_of o h a) (get_or row (s.length - 1) 0) (pending_of row (s.length - 1))) (pending_of row (s.length - 1)))
  pub set : SetOf row' r.list edges

-- ---- the loop
-- a good mesh with a count of flips that can go on
pub record LegalizeReady (C : Counts) (q : List ℤ) (o h a row : List ℕ) (flips : ℕ) : Type 0 where
  pub rows : GoodRows C q o h a
  pub few : C.faces ≤ 2 ^ 25
  pub bound : FlipsWithin C (links_of o h a) (position_of q) flips
  -- 01: "at least 8 pending entries"
  pub room : 8 ≤ length row

-- and the entries that are pending
pub record TurnReady (k : Entry) (C : Counts) (q : List ℤ) (o h a row : List ℕ) (s : PendingList) (flips : ℕ) : Type 0 where
  pub mesh : LegalizeReady C q o h a row flips
  pub fits : s.length ≤ length row
  pub set : SetOf row s C.edges
  pub entries : EntriesIn C k (pending_of row s.length)

-- the state that the rows, the list's length and the count hold
abbrev pub state_of : List ℕ → List ℕ → List ℕ → List ℕ → ℕ → ℕ → Legalizing
state_of o h a row n flips = record { links = links_of o h a; pending = pending_of row n; flips = flips; full = false }

-- what a turn leaves, in a mesh of so many edges; after a refusal the pending row is not read again
pub record TurnLeaves (edges : ℕ) (o h a row : List ℕ) (w : PendingList) (count : ℕ) (over : Bool) (s : Legalizing) : Type 0 where
  pub links : links_of o h a ≡ s.links
  pub flips : count ≡ s.flips
  pub full : over ≡ s.full
  pub fits : over ≡ false → w.length ≤ length row
  pub set : over ≡ false → SetOf row w edges
  pub pending : over ≡ false → pending_of row w.length ≡ s.pending

-- what a call leaves
pub record Leaves (o h a : List ℕ) (r : Legalized) (s : Legalizing) : Type 0 where
  pub links : links_of o h a ≡ s.links
  pub flips : r.flips ≡ s.flips
  pub full : r.full ≡ s.full
