-- Rows that hold a good mesh and the ring of its boundary about a centre: what a step is given, and what it leaves. Definitions only.
use Rattle.std.specs.Prelude.{not, List, ◌≡◌, ℕ, suc, T, Float, ℤ}
use Rattle.angle.specs.Angle.{IsAngle, turns, angle_about}
use Rattle.circle_test.specs.GoodRows.{GoodRows}
use Rattle.dcel.specs.Rows.{links_of, position_of}
use Rattle.hull.specs.Held.{Held}
use Rattle.math.specs.declared.Point.{Point}
use Rattle.math.specs.Determinant.{InRange}
use Rattle.mesh.specs.declared.Counts.{Counts}
use Rattle.mesh.specs.Mesh.{Links}
use Rattle.ring.specs.Ring.{edge_angle}
use Rattle.ring.specs.Center.{turns_about, refuses_center}
use Rattle.ring_rows.specs.declared.Node.{Node}
use Rattle.ring_rows.specs.declared.Hull.{Hull}
use Rattle.sums.specs.Iterate.{iter}
use Rattle.decide.specs.declared.Decision.{Decision}
use Rattle.decide.specs.declared.Fate.TheVariants.{Added}
use Rattle.decide.specs.Decide.{Decided}

-- no boundary vertex is at the centre, which is valid: refusal 6 does not apply to the mesh as it stands; and the ring's rows hold its
-- ring, which is sound
pub record SweepRows (C : Counts) (q : List ℤ) (o h a : List ℕ) (nodes : List Node) (freed buckets : List ℕ) (hull : Hull)
    (cx cy : Float) : Type 0 where
  pub mesh : GoodRows C q o h a
  pub center : T (not (refuses_center C (links_of o h a) (position_of q) cx cy))
  pub ring : Held C (links_of o h a) (turns_about cx cy (position_of q)) nodes freed buckets hull

-- what a decision asks: some such mesh, of which the rows of half-edges and of the ring are read, and a point in range
pub record ToDecide (C : Counts) (q : List ℤ) (h : List ℕ) (nodes : List Node) (freed buckets : List ℕ) (hull : Hull)
    (cx cy : Float) (v : Point) : Type 0 where
  pub outs : List ℕ
  pub faces : List ℕ
  pub sweep : SweepRows C q outs h faces nodes freed buckets hull cx cy
  pub range : InRange v

-- the angles of an added point, of the first vertex of the chain that it covers and of the last
pub record ChainAngles (C : Counts) (L : Links) (p : ℕ → Point) (cx cy : Float) (v : Point) (D : Decided) (r : Decision) : Type 0 where
  pub is-angle : IsAngle r.angle
  pub angle : turns r.angle ≡ turns (angle_about v.x v.y cx cy)
  pub start-angle : IsAngle r.startangle
  pub start : turns r.startangle ≡ edge_angle L (turns_about cx cy p) (iter D.left L.prev D.edge)
  pub end-angle : IsAngle r.endangle
  pub end : turns r.endangle ≡ edge_angle L (turns_about cx cy p) (iter (suc D.right) L.next D.edge)

-- r is the decision D
pub record Decides (C : Counts) (L : Links) (p : ℕ → Point) (cx cy : Float) (v : Point) (D : Decided) (r : Decision) : Type 0 where
  pub is : record { fate = r.fate; edge = r.edge; left = r.left; right = r.right } ≡ D
  pub angles : (n : ℕ) → r.fate ≡ Added n → ChainAngles C L p cx cy v D r
