-- What each function asks of the rows that are lent. Definitions only; `RowsLaws` says how a caller comes to it.
use Rattle.std.specs.Prelude.{List, ◌≡◌, ℕ, ◌+◌, ◌*◌, ◌^◌, ◌<◌, ◌≤◌, ℤ, length}
use Rattle.apply.specs.declared.Walked.{Walked}
use Rattle.apply.specs.Apply.{face_edge}
use Rattle.apply.specs.ApplyRows.{beside_in}
use Rattle.corner.specs.CornerRows.{extended_of}
use Rattle.dcel.specs.Rows.{halves_of, links_of, position_of, There}
use Rattle.dcel_operations.specs.Face.{SingleReady}
use Rattle.line.specs.Line.{Line}
use Rattle.line.specs.LineLaws.{Facing}
use Rattle.line.specs.Locate.{Off}
use Rattle.line.specs.OffLine.{Stand}
use Rattle.math.specs.declared.Point.{Point}
use Rattle.math.specs.Determinant.{InRange}
use Rattle.mesh.specs.declared.Counts.{Counts}
use Rattle.mesh.specs.Mesh.{Links}
use Rattle.mesh.specs.Operations.{create_single_face_between_edge_and_next}
use Rattle.ring.specs.declared.Side.{Side}
use Rattle.ring.specs.declared.Side.TheVariants.{Left, Right}
use Rattle.sums.specs.Half.{rev}

-- the rows are sized for so many vertices, as `MeshRoom` of corner has it; there are no pending entries here
pub record FanRoom (vertices : ℕ) (q : List ℤ) (h a : List ℕ) : Type 0 where
  pub positions : 2 * vertices ≤ length q
  pub halves : 24 * vertices ≤ length h
  pub faces : 2 * vertices ≤ length a
  pub small : vertices ≤ 2 ^ 24

-- all that a turn touches is in the rows, and the edge that it covers has the outer face behind it, also afterwards
pub record TurnReady (side : Side) (h a : List ℕ) (w : Walked) : Type 0 where
  pub current : There h w.edge
  pub single : SingleReady h a w.added.counts (face_edge side w.edge (beside_in side (halves_of h) w.edge))
  pub outer : (o : List ℕ) → (create_single_face_between_edge_and_next (links_of o h a) w.added.counts
      (face_edge side w.edge (beside_in side (halves_of h) w.edge))).face (rev (beside_in side (halves_of h) w.edge)) ≡ 0
  pub count : w.added.faces + 1 < 2 ^ 32

-- The new vertex is on the boundary, and a loop goes on with the edge to it, or with the edge from it. These two, of the
-- current edge and the other one
abbrev pub to_new : Side → ℕ → ℕ → ℕ
to_new Left current other = current
to_new Right current other = other

abbrev pub from_new : Side → ℕ → ℕ → ℕ
from_new Left current other = other
from_new Right current other = current

-- A loop under way: the line that was there before the new vertex, which is strictly left of its half-edge `edge`, and the
-- fan that stands on it now. A loop does not touch the out edges; `outs` are some that the fan has
pub record FanReady (side : Side) (q : List ℤ) (h a : List ℕ) (w : Walked) (v : Point) : Type 0 where
  pub counts : Counts
  pub links : Links
  pub edge : ℕ
  pub facing : Facing counts links (position_of q) edge
  pub here : position_of q counts.vertices ≡ v
  pub range : (u : ℕ) → u < counts.vertices + 1 → InRange (position_of q u)
  pub sized : FanRoom (counts.vertices + 1) q h a
  pub outs : List ℕ
  pub lo : ℕ
  pub hi : ℕ
  pub other : ℕ
  pub stand : Stand counts links facing.at facing.r (position_of q) lo hi (to_new side w.edge other)
      (from_new side w.edge other) (extended_of outs h a w.added)

-- The mesh before is a line of points at its own positions, which the row has kept; the new vertex is the next one, at the
-- point, which is strictly left of the half-edge e. The rows have room for one vertex more
pub record OffLineReady (C : Counts) (q : List ℤ) (o h a : List ℕ) (v : Point) (e : ℕ) : Type 0 where
  pub places : ℕ → Point
  pub line : Line C (links_of o h a) places
  pub same : (u : ℕ) → u < C.vertices → position_of q u ≡ places u
  pub here : position_of q C.vertices ≡ v
  pub range : InRange v
  pub off : Off C (links_of o h a) places v e
  pub outs : C.vertices + 1 ≤ length o
  pub sized : FanRoom (C.vertices + 1) q h a
