-- The boundary in the rows, as the checks walk it: what they ask, and rows 6 and 7 of the table over it; and what building the ring and asking it takes and gives. Definitions only; `Start`
-- and `Place` say that these are the mesh's.
use Rattle.std.specs.Prelude.{◌≡◌, not, cond, ◌||◌, List, ℕ, ◌<◌, Float, ℤ, T, Ok}
use Rattle.angle.specs.Angle.{valid_center, valid_angle, turns}
use Rattle.dcel.specs.Rows.{row_of, links_of, position_of}
use Rattle.hull.specs.Boundary.{BoundaryRows, ToBuild, edge_at, angles_of, origin_at_center}
use Rattle.mesh.specs.declared.Counts.{Counts}
use Rattle.mesh.specs.Area.{boundary_length}
use Rattle.mesh.specs.Wf.{Wf}
use Rattle.mesh_check.specs.Checked.{Checked}
use Rattle.mesh_check.specs.Check.{refused}
use Rattle.ring.specs.Ring.{full_turn, is_strict}
use Rattle.ring.specs.Center.{turns_about}
use Rattle.sums.specs.Bounded.{any_below}
use Rattle.locate.specs.declared.Place.{Place}
use Rattle.locate.specs.Locate.{place_at_of}

-- `size` half-edges from `start` on, by next, and back at `start`
pub record ClosedBoundary (p : List ℤ) (h : List ℕ) (start size : ℕ) : Type 0 where
  pub rows : BoundaryRows p h start
  pub closed : edge_at h start size ≡ start
  -- however far the walk goes, it meets these alone
  pub round : (k : ℕ) → (j : ℕ) × (j < size) × (edge_at h start j ≡ edge_at h start k)

-- rows 6 and 7
unfoldable pub ring_checked : List ℤ → List ℕ → Float → Float → ℕ → ℕ → Checked
ring_checked p h cx cy start size =
    cond (not (valid_center cx cy) || any_below size (λ k. origin_at_center p h cx cy (edge_at h start k))) (refused 6 0)
    (cond (not (is_strict full_turn (angles_of p h cx cy start size))) (refused 7 0) (Ok tt))

-- ---- the ring
-- the round is the boundary of a mesh that keeps the rules, which has these half-edges
pub record BoundaryOf (C : Counts) (o h a : List ℕ) (start size : ℕ) : Type 0 where
  pub rules : Wf C (links_of o h a)
  pub first : start ≡ row_of a 0
  pub whole : size ≡ boundary_length C (links_of o h a)

-- a strict boundary of some mesh, room for its ring, and an angle
pub record ToAsk (p : List ℤ) (h : List ℕ) (cx cy : Float) (start size nodes buckets : ℕ) (x : Float) : Type 0 where
  pub counts : Counts
  pub outs : List ℕ
  pub faces : List ℕ
  pub boundary : BoundaryOf counts outs h faces start size
  pub build : ToBuild p h cx cy start size nodes buckets
  pub angle : T (valid_angle x)

-- the edge and the count are those of every mesh with this boundary
abbrev pub PlaceOnBoundary : List ℤ → List ℕ → Float → Float → ℕ → ℕ → Float → Place → Type 0
PlaceOnBoundary p h cx cy start size x r =
    (C : Counts) (o a : List ℕ) → BoundaryOf C o h a start size → r ≡ place_at_of C (links_of o h a) (turns_about cx cy (position_of p)) (turns x)
