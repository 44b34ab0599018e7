-- What the parts of asking are given in the rows, and the edge that they look for. Definitions only.
use Rattle.std.specs.Prelude.{Bool, List, ℕ, Float, ℤ}
use Rattle.angle.specs.declared.Point2.{Point2}
use Rattle.dcel.specs.MeshRows.{mesh_rows}
use Rattle.dcel.specs.Rows.{halves_of}
use Rattle.decide.specs.declared.Decision.{Decision}
use Rattle.decide.specs.Decide.{Decided}
use Rattle.hull.specs.Boundary.{edge_at, origin_turns}
use Rattle.locate.specs.Start.{AcceptedStart}
use Rattle.math.specs.declared.Point.{Point}
use Rattle.mesh.specs.declared.Counts.{Counts}
use Rattle.ring.specs.Ring.{at_ends}
use Rattle.segment.specs.Arc.{holds}
use Rattle.start.specs.Start.{point_row}
use Rattle.sums.specs.Bounded.{first_below}

-- the segment of the k-th boundary edge from `start` on holds x
abbrev pub edge_holds : List ℤ → List ℕ → Float → Float → ℕ → ℕ → ℕ → Bool
edge_holds p h cx cy start x k = at_ends (holds x) (halves_of h).next (origin_turns p h cx cy) (edge_at h start k)

-- the first of `size` that does
abbrev pub edge_holding : List ℤ → List ℕ → Float → Float → ℕ → ℕ → ℕ → ℕ
edge_holding p h cx cy start size x = edge_at h start (first_below size (edge_holds p h cx cy start x))

-- the decision, without its angles
abbrev pub decided_of : Decision → Decided
decided_of r = record { fate = r.fate; edge = r.edge; left = r.left; right = r.right }

-- a mesh and a point that rows 1 to 7 accept, of which the out edges are not read
pub record ToQuote (C : Counts) (q : List ℤ) (h a : List ℕ) (center : Point2) (v : Point) : Type 0 where
  pub outs : List ℕ
  pub start : AcceptedStart (point_row v) C (mesh_rows q outs h a) center
