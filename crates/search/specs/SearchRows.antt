-- What the functions of point location ask of the rows, and what two of them answer. Assumes nothing.
use Rattle.std.specs.Prelude.{true, false, List, Option, Some, None, ◌≡◌, ℕ, ◌+◌, ◌-◌, ◌*◌, ◌<◌, ℤ, length}
use Rattle.std.proofs.Common.{arith}
use Rattle.circle_test.specs.GoodRows.{GoodRows, held}
use Rattle.dcel.specs.Rows.{halves_of, links_of, position_of, There, Placed}
use Rattle.dcel.specs.MeshHeld.{MeshHeld}
use Rattle.location.specs.Search.{is_nearest, nearer}
use Rattle.location.specs.Scan.{first_holding}
use Rattle.math.specs.declared.Point.{Point}
use Rattle.math.specs.Determinant.{InRange, length2}
use Rattle.mesh.specs.declared.Counts.{Counts}
use Rattle.mesh.specs.Mesh.{Links, In}
use Rattle.sums.specs.Half.{rev}
use Rattle.search.specs.declared.Corners.{Corners}

-- ---- the mesh
-- the rows hold a good mesh, and the point is in range
pub record SearchReady (C : Counts) (q : List ℤ) (o h a : List ℕ) (point : Point) : Type 0 where
  pub rows : GoodRows C q o h a
  pub range : InRange point

-- the same with some row of faces
pub record NearReady (C : Counts) (q : List ℤ) (o h : List ℕ) (point : Point) : Type 0 where
  pub faces : List ℕ
  pub ready : SearchReady C q o h faces point

-- and vertex v is at this squared distance
pub record SpokesReady (C : Counts) (q : List ℤ) (o h : List ℕ) (point : Point) (v : ℕ) (d : ℤ) : Type 0 where
  pub near : NearReady C q o h point
  pub used : v < C.vertices
  pub distance : d ≡ length2 (position_of q v) point

-- what `first_closer` answers
abbrev pub CloserIs : Counts → Links → (ℕ → Point) → Point → ℕ → Option (ℕ × ℤ) → Type 0
CloserIs C L p q v (Some r) = (is_nearest C L p q v ≡ false) × (r.0 ≡ nearer C L p q v) × (r.1 ≡ length2 (p r.0) q)
CloserIs C L p q v None = is_nearest C L p q v ≡ true

-- ---- one turn
-- e is a half-edge of some mesh whose positions and half-edges the rows hold
pub record TurnReady (q : List ℤ) (h : List ℕ) (point : Point) (e : ℕ) : Type 0 where
  pub counts : Counts
  pub outs : List ℕ
  pub faces : List ℕ
  pub ready : SearchReady counts q outs h faces point
  pub used : In counts e

-- and goes from f to t
pub record EndsReady (q : List ℤ) (h : List ℕ) (point : Point) (e : ℕ) (f t : Point) : Type 0 where
  pub turn : TurnReady q h point e
  pub from : f ≡ position_of q ((halves_of h).origin e)
  pub to : t ≡ position_of q ((halves_of h).origin (rev e))

-- e and its reverse are in the row
pub record LineReady (h : List ℕ) (e : ℕ) : Type 0 where
  pub here : There h e
  pub back : There h (rev e)

-- ---- the scan
-- three half-edges along next from a are in the row, and their origins have positions
pub record CornersIn (q : List ℤ) (h : List ℕ) (a : ℕ) : Type 0 where
  pub here : There h a
  pub next : There h ((halves_of h).next a)
  pub last : There h ((halves_of h).next ((halves_of h).next a))
  pub u : 2 * (halves_of h).origin a + 1 < length q
  pub v : 2 * (halves_of h).origin ((halves_of h).next a) + 1 < length q
  pub w : 2 * (halves_of h).origin ((halves_of h).next ((halves_of h).next a)) + 1 < length q

pub record CornersOf (s : List ℤ) (h : List ℕ) (a : ℕ) (k : Corners) : Type 0 where
  pub b : k.b ≡ (halves_of h).next a
  pub c : k.c ≡ (halves_of h).next ((halves_of h).next a)
  pub u : k.u ≡ (halves_of h).origin a
  pub v : k.v ≡ (halves_of h).origin ((halves_of h).next a)
  pub w : k.w ≡ (halves_of h).origin ((halves_of h).next ((halves_of h).next a))
  pub p : k.p ≡ position_of s ((halves_of h).origin a)
  pub q : k.q ≡ position_of s ((halves_of h).origin ((halves_of h).next a))
  pub r : k.r ≡ position_of s ((halves_of h).origin ((halves_of h).next ((halves_of h).next a)))

-- a is in an inner face
pub record TriangleReady (q : List ℤ) (h : List ℕ) (point : Point) (a : ℕ) : Type 0 where
  pub turn : TurnReady q h point a
  pub inner : 0 < (halves_of h).face a

-- the mesh with some row of out edges
pub record ScanReady (C : Counts) (q : List ℤ) (h a : List ℕ) (point : Point) : Type 0 where
  pub outs : List ℕ
  pub ready : SearchReady C q outs h a point

-- what `first_holding` answers
abbrev pub HoldingIs : Counts → Links → (ℕ → Point) → Point → Option ℕ → Type 0
HoldingIs C L p q (Some f) = (f ≡ first_holding C L p q + 1) × (f < C.faces)
HoldingIs C L p q None = C.faces ≡ first_holding C L p q + 1

-- and no inner face holds the point
pub record LeftReady (C : Counts) (q : List ℤ) (h a : List ℕ) (point : Point) : Type 0 where
  pub scan : ScanReady C q h a point
  pub none : first_holding C (links_of scan.outs h a) (position_of q) point < C.faces - 1 → ⊥

-- ---- what the mesh gives
module _ {C : Counts} {q : List ℤ} {o h a : List ℕ} {point : Point} (R : SearchReady C q o h a point) where
  pub ready_held : MeshHeld C o h a
  ready_held = held R.rows

  pub ready-placed : {v : ℕ} → v < C.vertices → Placed q v
  ready-placed l = record { there = let k = R.rows.positions in omega arith; range = R.rows.good.range l }
