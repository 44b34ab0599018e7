-- Rows, counts and a ring as a step is given them, and as it leaves them. Definitions only.
use Rattle.std.specs.Prelude.{false, List, ◌≡◌, ℕ, suc, ◌+◌, ◌*◌, ◌<◌, ◌≤◌, Float, ℤ, length}
use Rattle.angle.specs.declared.Point2.{Point2}
use Rattle.apply.specs.Apply.{add_turns}
use Rattle.apply.specs.ApplyRows.{AddReady, applied_of}
use Rattle.apply.specs.declared.Entered.{Entered}
use Rattle.corner.specs.declared.Extension.{Extension}
use Rattle.corner.specs.CornerRows.{MeshRoom}
use Rattle.dcel.specs.MeshRows.{MeshRows, mesh_rows, links_in, places_in}
use Rattle.dcel.specs.Rows.{links_of, position_of}
use Rattle.decide.specs.declared.Decision.{Decision}
use Rattle.decide.specs.declared.Fate.{Fate}
use Rattle.decide.specs.SweepRows.{SweepRows}
use Rattle.math.specs.declared.Point.{Point}
use Rattle.math.specs.Determinant.{InRange}
use Rattle.mesh.specs.declared.Counts.{Counts}
use Rattle.ring_rows.specs.declared.Hull.{Hull}
use Rattle.ring_rows.specs.RingRows.{RingRows}
use Rattle.start.specs.StartRows.{RowsCleared}
use Rattle.sums.specs.Put.{put}
use Rattle.step.specs.declared.Progress.{Progress}
use Rattle.sweep.specs.Step.{Stepping, step_mesh}

-- what a step of these parts comes to
abbrev pub progress_of : Extension → Hull → Fate → Progress
progress_of g hull f = record { counts = g.counts; hull = hull; answer = record { fate = f; faces = g.faces; flips = g.flips }; full = g.full }

-- the rows as what has become of a point and of the mesh
unfoldable pub stepping_of : MeshRows → Progress → Stepping
stepping_of m r = record {
  fate = r.answer.fate;
  positions = places_in m;
  mesh = record { counts = r.counts; links = links_in m; faces = r.answer.faces; flips = r.answer.flips; full = r.full };
}

-- the rows do for N vertices, one more than there are, by 01's sizes
pub record StepRoom (N : ℕ) (C : Counts) (m : MeshRows) (pending : List ℕ) (ring : RingRows) (hull : Hull) : Type 0 where
  pub more : C.vertices + 1 ≤ N
  pub most : N ≤ 1000000
  pub positions : 2 * N ≤ length m.positions
  pub outs : N ≤ length m.outs
  pub sized : MeshRoom N m.halves m.faces pending
  pub node-room : suc N ≤ length ring.nodes
  pub freed-room : suc N ≤ length ring.freed
  pub bucket-room : N ≤ length ring.buckets
  pub nodes-most : hull.nodes ≤ suc N

-- the rows hold a mesh with its ring about a centre
abbrev pub SweepIn : Counts → MeshRows → RingRows → Hull → Point2 → Type 0
SweepIn C m ring hull center =
    SweepRows C m.positions m.outs m.halves m.faces ring.nodes ring.freed ring.buckets hull center.x center.y

-- they do, with room for a point in range
pub record StepReady (C : Counts) (m : MeshRows) (pending : List ℕ) (ring : RingRows) (hull : Hull) (center : Point2) (v : Point)
    : Type 0 where
  pub sweep : SweepIn C m ring hull center
  pub range : InRange v
  pub vertices : ℕ
  pub room : StepRoom vertices C m pending ring hull

-- What it leaves: the step as it is defined, and where no flip was refused again a mesh with its ring, whose nodes the rows have room for
pub record StepLeaves (C : Counts) (m : MeshRows) (pending : List ℕ) (ring : RingRows) (hull : Hull) (center : Point2) (v : Point)
    (m' : MeshRows) (ring' : RingRows) (r : Progress) : Type 0 where
  pub is : stepping_of m' r ≡ step_mesh (length pending) center.x center.y C (links_in m) (places_in m) v
  pub sweep : r.full ≡ false → SweepIn r.counts m' ring' r.hull center
  pub nodes-most : (N : ℕ) → StepRoom N C m pending ring hull → r.hull.nodes ≤ suc N

-- the point as a vertex in the rows
pub record PointReady (C : Counts) (q : List ℤ) (o h a row : List ℕ) (v : Point) (D : Decision) : Type 0 where
  pub place : 2 * C.vertices + 1 < length q
  -- with the positions that the row holds then
  pub add : (q' : List ℤ) → length q' ≡ length q → position_of q' ≡ put (position_of q) C.vertices v
      → AddReady C q' o h a row D.edge D.left D.right

pub record PointAdded (C : Counts) (q q' : List ℤ) (o h a row o' h' a' : List ℕ) (v : Point) (D : Decision) (r : Entered) : Type 0 where
  pub places : position_of q' ≡ put (position_of q) C.vertices v
  pub is : applied_of o' h' a' r
      ≡ add_turns (length row) (put (position_of q) C.vertices v) C (links_of o h a) D.edge D.left D.right

-- ---- the call
-- The step as it is defined, and zeros
pub record SweptOnce (C : Counts) (m : MeshRows) (ring : RingRows) (pending : List ℕ) (m' : MeshRows) (ring' : RingRows) (pending' : List ℕ)
    (center : Point2) (v : Point) (r : Progress) : Type 0 where
  pub is : stepping_of m' r ≡ step_mesh (length pending) center.x center.y C (links_in m) (places_in m) v
  pub zeros : RowsCleared ring pending ring' pending'
