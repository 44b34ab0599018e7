-- Rows and counts as the states of the passes, and what each function asks of them. Assumes nothing.
use Rattle.std.specs.Prelude.{true, false, List, ◌≡◌, ℕ, ◌+◌, ◌≤◌, ℤ}
use Rattle.corner.specs.declared.Extension.{Extension}
use Rattle.corner.specs.CornerRows.{extended_of, MeshRoom, Ready}
use Rattle.circle_test.specs.GoodRows.{GoodRows}
use Rattle.dcel.specs.Rows.{halves_of, links_of, position_of, There, Placed}
use Rattle.mesh.specs.declared.Counts.{Counts}
use Rattle.mesh.specs.Mesh.{Links, In}
use Rattle.mesh.specs.Area.{boundary_length}
use Rattle.sums.specs.Half.{rev}
use Rattle.convexity.specs.Convexity.{turns_left_at}
use Rattle.convexity.specs.Walk.{Walk}

-- a walk within a pass
abbrev pub walk_of : List ℕ → List ℕ → List ℕ → Extension → ℕ → ℕ → ℕ → Walk
walk_of o h a g current depth left = record { mesh = extended_of o h a g; current = current; depth = depth; left = left }

-- ---- one corner
-- all that its test reads is in the rows
pub record CornerReady (q : List ℤ) (h : List ℕ) (d e : ℕ) : Type 0 where
  pub here : There h d
  pub back : There h (rev d)
  pub next : There h (rev e)
  pub origin : Placed q ((halves_of h).origin d)
  pub to : Placed q ((halves_of h).origin (rev d))
  pub target : Placed q ((halves_of h).origin (rev e))

-- the same of the two half-edges behind the current one
pub record BehindReady (q : List ℤ) (h : List ℕ) (current : ℕ) : Type 0 where
  pub here : There h current
  pub last : There h ((halves_of h).prev current)
  pub corner : CornerReady q h ((halves_of h).prev ((halves_of h).prev current)) ((halves_of h).prev current)

-- ---- passes
-- the current half-edge is on the boundary
pub record OnBoundary (C : Counts) (L : Links) (current : ℕ) : Type 0 where
  pub edge : In C current
  pub outer : L.face current ≡ 0

-- a corner behind it is to be closed
pub record CloseBehindReady (q : List ℤ) (o h a row : List ℕ) (g : Extension) (c : ℕ) : Type 0 where
  pub ready : Ready q o h a row g
  pub current : OnBoundary g.counts (links_of o h a) c
  pub left : turns_left_at (links_of o h a) (position_of q) ((links_of o h a).prev ((links_of o h a).prev c)) ((links_of o h a).prev c) ≡ true

-- all corners behind it are
pub record WalkReady (q : List ℤ) (o h a row : List ℕ) (g : Extension) (c d : ℕ) : Type 0 where
  pub ready : Ready q o h a row g
  pub current : OnBoundary g.counts (links_of o h a) c
  pub depth : d ≤ boundary_length g.counts (links_of o h a) + 1

-- a pass
pub record StartReady (q : List ℤ) (o h a row : List ℕ) (g : Extension) : Type 0 where
  pub ready : Ready q o h a row g
  pub full : g.full ≡ false

-- all passes
pub record MeshReady (q : List ℤ) (o h a row : List ℕ) (C : Counts) : Type 0 where
  pub rows : GoodRows C q o h a
  pub sized : MeshRoom C.vertices h a row
