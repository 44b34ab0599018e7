-- What the functions ask of the rows, and what they answer. Definitions only.
use Rattle.std.specs.Prelude.{Bool, not, ◌&&◌, ◌||◌, List, ◌≡◌, ℕ, ◌<◌, T, ℤ, pos}
use Rattle.std.specs.Int.Signed.{lt_z, le_z}
use Rattle.dcel.specs.Rows.{halves_of, links_of, position_of, There, Placed}
use Rattle.location.specs.Place.{LeftOf, InFace}
use Rattle.math.specs.declared.Point.{Point}
use Rattle.math.specs.declared.Vector.{Vector}
use Rattle.math.specs.Vector.{Short, difference}
use Rattle.mesh.specs.declared.Counts.{Counts}
use Rattle.mesh.specs.Mesh.{In}
use Rattle.outline.specs.Outline.{upper}
use Rattle.search.specs.SearchRows.{SearchReady}
use Rattle.sums.specs.Bit.{bit}
use Rattle.sums.specs.Half.{rev}
use Rattle.walkable.specs.Walkable.{Walkable}
use Rattle.search_near.specs.declared.Facing.{Facing}
use Rattle.search_near.specs.declared.Turned.{Turned}
use Rattle.search_near.specs.declared.Turned.TheVariants.{Inside, Onward, Nowhere}

-- ---- the walk
-- the rows hold a good mesh with an edge u, and the point is in range
pub record StartReady (C : Counts) (q : List ℤ) (o h a : List ℕ) (point : Point) (u : ℕ) : Type 0 where
  pub ready : SearchReady C q o h a point
  pub used : u < C.edges

-- with a half-edge e, and the point is strictly left of it where `left` says so
pub record FacingReady (C : Counts) (q : List ℤ) (o h a : List ℕ) (point : Point) (at : Facing) : Type 0 where
  pub ready : SearchReady C q o h a point
  pub used : In C at.e
  pub from : at.from ≡ position_of q ((halves_of h).origin at.e)
  pub to : at.to ≡ position_of q ((halves_of h).origin (rev at.e))
  pub strict : T at.left → LeftOf (links_of o h a) (position_of q) point at.e

-- a turn's face has the point strictly inside
abbrev pub TurnedIs : Counts → List ℤ → List ℕ → List ℕ → List ℕ → Point → Turned → Type 0
TurnedIs C q o h a point (Inside f) = InFace C (links_of o h a) (position_of q) point f
TurnedIs C q o h a point (Onward at) = FacingReady C q o h a point at
TurnedIs C q o h a point Nowhere = Unit

-- ---- the whole: the mesh is one to walk on where that is known
pub record NearReady (C : Counts) (q : List ℤ) (o h a : List ℕ) (point : Point) (known : Bool) (u : ℕ) : Type 0 where
  pub start : StartReady C q o h a point u
  pub walkable : T known → Walkable C (links_of o h a) (position_of q)

-- ---- the test
pub record DirectionReady (q : List ℤ) (h : List ℕ) (e : ℕ) : Type 0 where
  pub here : There h e
  pub back : There h (rev e)
  pub from : Placed q ((halves_of h).origin e)
  pub to : Placed q ((halves_of h).origin (rev e))

pub record DirectionIs (q : List ℤ) (h : List ℕ) (e : ℕ) (v : Vector) : Type 0 where
  pub is : v ≡ difference (position_of q ((halves_of h).origin (rev e))) (position_of q ((halves_of h).origin e))
  pub short : Short v

-- positive, or 0 with a second that is
unfoldable pub is_positive_of : ℤ → ℤ → Bool
is_positive_of a b = lt_z (pos 0) a || (le_z (pos 0) a && lt_z (pos 0) b)

-- 1 where a direction of the upper half-plane is followed by one of the lower
abbrev pub fall_bit : Vector → Vector → ℕ
fall_bit u v = bit (upper u && not (upper v))
