-- The located edge in the rows, and what a decision by it asks and answers. Definitions only.
use Rattle.std.specs.Prelude.{ℕ, not, List, ◌≡◌, T, Float, ℤ}
use Rattle.angle.specs.Angle.{IsAngle, turns, angle_about}
use Rattle.circle_test.specs.GoodRows.{GoodRows}
use Rattle.dcel.specs.Rows.{links_of, position_of}
use Rattle.hull.specs.Boundary.{AngleAt}
use Rattle.math.specs.declared.Point.{Point}
use Rattle.math.specs.Determinant.{InRange}
use Rattle.mesh.specs.declared.Counts.{Counts}
use Rattle.mesh.specs.Mesh.{In}
use Rattle.mesh.specs.Area.{boundary_length}
use Rattle.ring.specs.Ring.{at_ends, edge_angle, is_sound_ring}
use Rattle.ring.specs.Center.{refuses_center, turns_about}
use Rattle.ring.specs.Node.{nodes as node_count}
use Rattle.segment.specs.Arc.{holds}
use Rattle.sums.specs.Half.{rev}
use Rattle.decide.specs.declared.Decision.{Decision}
use Rattle.decide.specs.declared.Fate.{Fate}
use Rattle.decide.specs.Decide.{decided_at, not_added}
use Rattle.decide.specs.SweepRows.{Decides}

-- e is a boundary edge of a good mesh, whose ring about the centre is sound and has `size` nodes; it holds a, the angle of the point v;
-- `next` is the next vertex
pub record LocatedRows (C : Counts) (q : List ℤ) (o h f : List ℕ) (cx cy : Float) (e size next : ℕ) (v : Point) (a : Float)
    : Type 0 where
  pub mesh : GoodRows C q o h f
  pub center : T (not (refuses_center C (links_of o h f) (position_of q) cx cy))
  pub sound : T (is_sound_ring C (links_of o h f) (turns_about cx cy (position_of q)))
  pub in_use : In C e
  pub outer : (links_of o h f).face e ≡ 0
  pub at : T (at_ends (holds (turns a)) (links_of o h f).next (edge_angle (links_of o h f) (turns_about cx cy (position_of q))) e)
  pub count :
      node_count (links_of o h f).next (edge_angle (links_of o h f) (turns_about cx cy (position_of q))) (boundary_length C (links_of o h f)) e
      ≡ size
  pub vertex : C.vertices ≡ next
  pub range : InRange v
  pub is-angle : IsAngle a
  pub angle : turns a ≡ turns (angle_about v.x v.y cx cy)

-- the angles of its two ends
pub record EndAngles (q : List ℤ) (h : List ℕ) (cx cy : Float) (e : ℕ) (from to : Float) : Type 0 where
  pub from-angle : AngleAt q h cx cy e from
  pub to-angle : AngleAt q h cx cy (rev e) to

-- some such mesh, of which the rows of positions and half-edges are read
pub record ToDecideAt (q : List ℤ) (h : List ℕ) (cx cy : Float) (e : ℕ) (from to : Float) (size next : ℕ) (v : Point) (a : Float)
    : Type 0 where
  pub counts : Counts
  pub outs : List ℕ
  pub faces : List ℕ
  pub located : LocatedRows counts q outs h faces cx cy e size next v a
  pub ends : EndAngles q h cx cy e from to

-- r is the decision about v, by that edge
abbrev pub DecidesAt : Counts → List ℤ → List ℕ → List ℕ → List ℕ → Float → Float → ℕ → Point → Float → Decision → Type 0
DecidesAt C q o h f cx cy e v a r =
    Decides C (links_of o h f) (position_of q) cx cy v
    (decided_at C (links_of o h f) (position_of q) (turns_about cx cy (position_of q)) v (turns a) e) r

-- r leaves a point out, with this fate
abbrev pub LeavesOut : Fate → Decision → Type 0
LeavesOut f r = record { fate = r.fate; edge = r.edge; left = r.left; right = r.right } ≡ not_added f
