-- What each function asks of the rows that are lent. Definitions only; `RowsLaws` says how a caller comes to it.
use Rattle.std.specs.Prelude.{List, ◌≡◌, ℕ, ◌+◌, ◌*◌, ◌<◌, ◌≤◌, ℤ, length}
use Rattle.apply.specs.declared.Walked.{Walked}
use Rattle.apply.specs.Apply.{face_edge}
use Rattle.apply.specs.ApplyRows.{walking_of, beside_in}
use Rattle.corner.specs.declared.Extension.{Extension}
use Rattle.corner.specs.CornerLaws.{LeftCorner}
use Rattle.corner.specs.CornerRows.{MeshRoom, Ready}
use Rattle.dcel.specs.Rows.{halves_of, links_of, position_of, There, Placed}
use Rattle.location.specs.Place.{Beyond}
use Rattle.math.specs.declared.Point.{Point}
use Rattle.math.specs.Determinant.{InRange}
use Rattle.mesh.specs.declared.Counts.{Counts}
use Rattle.mesh.specs.Mesh.{In}
use Rattle.mesh.specs.Good.{Good}
use Rattle.ring.specs.declared.Side.{Side}
use Rattle.ring.specs.Chain.{beside}
use Rattle.skipped.proofs.OutsideLaws.{Standing}
use Rattle.sums.specs.Half.{rev}

-- the corner at the end of the boundary edge e turns left, and d is in use
pub record CoverReady (q : List ℤ) (o h a row : List ℕ) (g : Extension) (e d : ℕ) : Type 0 where
  pub ready : Ready q o h a row g
  pub edge : In g.counts e
  pub outer : (links_of o h a).face e ≡ 0
  pub left : LeftCorner (links_of o h a) (position_of q) e
  pub used : In g.counts d

-- all that the side test of d reads is in the rows
pub record SightReady (q : List ℤ) (h : List ℕ) (d : ℕ) (v : Point) : Type 0 where
  pub here : There h d
  pub back : There h (rev d)
  pub origin : Placed q ((halves_of h).origin d)
  pub to : Placed q ((halves_of h).origin (rev d))
  pub range : InRange v

-- the same of the edge beside the current one
pub record BesideReady (side : Side) (q : List ℤ) (h : List ℕ) (current : ℕ) (v : Point) : Type 0 where
  pub here : There h current
  pub sight : SightReady q h (beside_in side (halves_of h) current) v

-- the corner between the current edge and the one beside it is to be closed
pub record TurnReady (side : Side) (q : List ℤ) (o h a row : List ℕ) (w : Walked) : Type 0 where
  pub current : In w.added.counts w.edge
  pub cover : CoverReady q o h a row w.added (face_edge side w.edge (beside side (links_of o h a) w.edge))
      (beside side (links_of o h a) w.edge)

-- a loop about a new vertex on the boundary, which has its position: the current edge leads to it or from it, and
-- another boundary edge does the other
pub record WalkReady (side : Side) (q : List ℤ) (o h a row : List ℕ) (w : Walked) (v : Point) : Type 0 where
  pub ready : Ready q o h a row w.added
  pub range : InRange v
  pub vertex : ℕ
  pub here : position_of q vertex ≡ v
  pub other : ℕ
  pub standing : Standing (length row) (position_of q) here side other (walking_of o h a w)

-- The mesh before is good at its own positions, which the row has kept; the new vertex is the next one, at the point,
-- which lies beyond the boundary edge e. The rows have room for one vertex more
pub record OutsideReady (C : Counts) (q : List ℤ) (o h a row : List ℕ) (v : Point) (e : ℕ) : Type 0 where
  pub places : ℕ → Point
  pub good : Good C (links_of o h a) places
  pub same : (u : ℕ) → u < C.vertices → position_of q u ≡ places u
  pub here : position_of q C.vertices ≡ v
  pub range : InRange v
  pub beyond : Beyond C (links_of o h a) places v e
  pub outs : C.vertices + 1 ≤ length o
  pub positions : 2 * (C.vertices + 1) ≤ length q
  pub sized : MeshRoom (C.vertices + 1) h a row
