-- Rows and a count as the state of the closing pass, and what a turn needs of them. Assumes nothing.
use Rattle.std.specs.Prelude.{List, ℕ, ◌≤◌, ◌^◌, ℤ}
use Rattle.circle_test.specs.GoodRows.{GoodRows}
use Rattle.conflicts.specs.FlipsWithin.{FlipsWithin}
use Rattle.dcel.specs.Rows.{links_of, position_of}
use Rattle.mesh.specs.declared.Counts.{Counts}
use Rattle.closing.specs.Closing.{Closing}

-- the links that the rows hold, and the count
unfoldable pub closing_of : List ℕ → List ℕ → List ℕ → ℕ → Closing
closing_of o h a c = record { links = links_of o h a; flips = c }

-- the rows hold a good mesh, and the count has room for its flips
pub record Closable (C : Counts) (q : List ℤ) (o h a : List ℕ) (c : ℕ) : Type 0 where
  pub rows : GoodRows C q o h a
  pub few : C.faces ≤ 2 ^ 25
  pub bound : FlipsWithin C (links_of o h a) (position_of q) c
