-- The decision by the edge of the node that the ring's rows answer for the point's angle. Assumes nothing.
use mathlib.Core.List.{List}
use mathlib.Core.Path.{◌≡◌, refl, ◌∙◌, ap}
use lib.Ieee.{Float}
use lib.IntN.{ℤ}
use Prim.Native.Nat.{ℕ}
use Rattle.std.specs.Prelude.{Option, Some}
use Rattle.angle.specs.Angle.{IsAngle, turns}
use Rattle.angle.specs.Answer.{vertex_angle}
use Rattle.dcel.specs.Rows.{links_of, position_of}
use Rattle.math.specs.declared.Point.{Point}
use Rattle.math.specs.Determinant.{InRange}
use Rattle.mesh.specs.declared.Counts.{Counts}
use Rattle.ring_rows.specs.declared.Node.{Node}
use Rattle.ring_rows.specs.declared.Hull.{Hull}
use Rattle.ring_rows.specs.Rows.{nodes_of, size_of}
use Rattle.ring_rows.specs.Find.{NodeAt}
use Rattle.decide.specs.declared.Decision.{Decision}
use Rattle.decide.specs.Decide.{decided}
use Rattle.decide.specs.SweepRows.{Decides, SweepRows, ToDecide}
use Rattle.decide.proofs.SweepRowsLaws.{found-located, found-ends, located-rows}
use Rattle.decide.specs.Located.{DecidesAt, LocatedRows, ToDecideAt}
use Rattle.decide.proofs.VertexAngles.{angle-is, decided-located}

module _ (v : Point) (cx cy : Float) {r : Option Float} {x y : ℤ} (is : r ≡ vertex_angle x y cx cy) (x-is : x ≡ v.x) (y-is : y ≡ v.y)
    {g : Float} (z : r ≡ Some g) (A : IsAngle g) {C : Counts} {q : List ℤ} {h : List ℕ} {nodes : List Node} {freed buckets : List ℕ}
    {hull : Hull} {found : ℕ} (N : NodeAt nodes buckets hull (turns g) found) {n : Node} (n-is : n ≡ nodes_of nodes found) where
  pub asks_at : {m : Node} → m ≡ nodes_of nodes n.right → ToDecide C q h nodes freed buckets hull cx cy v
      → ToDecideAt q h cx cy n.edge n.angle m.angle (size_of hull) C.vertices v g
  asks_at j T = record {
    counts = C;
    outs = T.outs;
    faces = T.faces;
    located = located-rows T.sweep N n-is T.range A (angle-is v cx cy is x-is y-is z).1 refl;
    ends = found-ends T.sweep N n-is j;
  }

  pub at-located : InRange v → {d : Decision}
      → ((B : Counts) (o a : List ℕ) → LocatedRows B q o h a cx cy n.edge (size_of hull) C.vertices v g
      → DecidesAt B q o h a cx cy n.edge v g d)
      → (o a : List ℕ) → SweepRows C q o h a nodes freed buckets hull cx cy
      → Decides C (links_of o h a) (position_of q) cx cy v (decided cx cy C (links_of o h a) (position_of q) v) d
  at-located R D o a S =
      decided-located v cx cy is x-is y-is z (ap (λ (k : Node). k.edge) n-is ∙ found-located S N)
      (D C o a (located-rows S N n-is R A (angle-is v cx cy is x-is y-is z).1 refl))
