-- A mesh with its ring, as a step is given it: the ring is sound, and the edge that the ring's rows answer for an angle is the located
-- one. Assumes nothing.
use Rattle.std.specs.Prelude.{true, false, List, ◌≡◌, refl, ℕ, ◌<◌, T, Float, ℤ}
use Rattle.std.proofs.Common.{sym, ◌∙◌, subst}
use Rattle.std.proofs.Math.Path.{ap}
use Rattle.angle.specs.Angle.{IsAngle, angle_about, at_center, turns, valid_center}
use Rattle.circle_test.specs.GoodRows.{held}
use Rattle.dcel.specs.Rows.{links_of, position_of}
use Rattle.hull.proofs.Find.{at-located, at-below, at-angles, at-ends}
use Rattle.hull.proofs.Ready.{angled-boundary}
use Rattle.math.specs.declared.Point.{Point}
use Rattle.math.specs.Determinant.{InRange}
use Rattle.mesh.specs.declared.Counts.{Counts}
use Rattle.mesh.specs.Mesh.{Links, In}
use Rattle.ring.specs.Ring.{at_ends, edge_angle, is_sound_ring, located}
use Rattle.ring.specs.Center.{turns_about}
use Rattle.ring.proofs.Boundary.{located<, located-outer, located-holds, edge-end}
use Rattle.ring.proofs.RingOfLaws.{ring-from, ring-sound-ring}
use Rattle.ring_rows.specs.declared.Node.{Node}
use Rattle.ring_rows.specs.declared.Hull.{Hull}
use Rattle.ring_rows.specs.Rows.{nodes_of, edge_of, right_node_of, size_of}
use Rattle.ring_rows.specs.Find.{NodeAt}
use Rattle.segment.specs.Arc.{holds}
use Rattle.decide.specs.declared.Fate.TheVariants.{AtCenter}
use Rattle.decide.specs.Decide.{decided, decided_at, not_added}
use Rattle.decide.specs.SweepRows.{SweepRows}
use Rattle.decide.specs.Located.{LocatedRows, EndAngles}

-- ---- the decision by whether the point is at the centre
module _ (cx cy : Float) (C : Counts) (L : Links) (p : ℕ → Point) (v : Point) where
  pub decided-none : at_center v.x v.y cx cy ≡ true → decided cx cy C L p v ≡ not_added AtCenter
  unfolding decided
  decided-none z = rw z

  pub decided-some : at_center v.x v.y cx cy ≡ false
      → (let α = turns_about cx cy p in let q = turns (angle_about v.x v.y cx cy) in
      decided cx cy C L p v ≡ decided_at C L p α v q (located C L α q))
  unfolding decided
  decided-some z = rw z

-- ---- the mesh and its ring
module _ {C : Counts} {q : List ℤ} {o h a : List ℕ} {nodes : List Node} {freed buckets : List ℕ} {hull : Hull} {cx cy : Float}
    (S : SweepRows C q o h a nodes freed buckets hull cx cy) where
  pub sweep-center : T (valid_center cx cy)
  sweep-center = (angled-boundary (held S.mesh) q S.mesh.positions cx cy S.center).valid

  pub sweep_sound : T (is_sound_ring C (links_of o h a) (turns_about cx cy (position_of q)))
  sweep_sound = ring-sound-ring S.mesh.good.wf S.ring.ring

  -- the node that the rows answer for the angle x: its edge is the located one, a boundary edge that holds x
  module _ {x i : ℕ} (N : NodeAt nodes buckets hull x i) where
    pub found-located : edge_of (nodes_of nodes) i ≡ located C (links_of o h a) (turns_about cx cy (position_of q)) x
    found-located = at-located S.ring N S.mesh.good.wf

    pub found_in : In C (edge_of (nodes_of nodes) i)
    found_in = subst (In C) (sym found-located) (located< S.mesh.good.wf (turns_about cx cy (position_of q)) sweep_sound x)

    pub found-outer : (links_of o h a).face (edge_of (nodes_of nodes) i) ≡ 0
    found-outer =
        ap (links_of o h a).face found-located ∙ located-outer S.mesh.good.wf (turns_about cx cy (position_of q)) sweep_sound x

    pub found-holds :
        T (at_ends (holds x) (links_of o h a).next (edge_angle (links_of o h a) (turns_about cx cy (position_of q))) (edge_of (nodes_of nodes) i))
    found-holds =
        subst (λ (e : ℕ). T (at_ends (holds x) (links_of o h a).next (edge_angle (links_of o h a) (turns_about cx cy (position_of q))) e))
        (sym found-located) (located-holds S.mesh.good.wf (turns_about cx cy (position_of q)) sweep_sound x)

    -- that node, and the one to its right, have the angles of the edge's ends
    pub found_below : (i < hull.nodes) × (right_node_of (nodes_of nodes) i < hull.nodes)
    found_below = at-below S.ring N

    pub found-ends : {n m : Node} → n ≡ nodes_of nodes i → m ≡ nodes_of nodes n.right
        → EndAngles q h cx cy n.edge n.angle m.angle
    unfolding links_of
    found-ends {n} {m} n-is m-is =
        let W = S.mesh.good.wf in
        let A = at-angles S.ring N in
        let E = at-ends S.ring N W in
        let m-at : m ≡ nodes_of nodes (right_node_of (nodes_of nodes) i) = m-is ∙ ap (λ (k : Node). nodes_of nodes k.right) n-is in
        rw (n-is, m-at) (record {
          from-angle = record { is-angle = A.0; turns-are = E.0 };
          to-angle = record {
            is-angle = A.1;
            turns-are = E.1 ∙ edge-end W (turns_about cx cy (position_of q)) found_in;
          };
        })

    -- so they are what a decision by that edge asks
    pub located-rows : {v : Point} {g : Float} {n : Node} → n ≡ nodes_of nodes i → InRange v → IsAngle g → g ≡ angle_about v.x v.y cx cy
        → x ≡ turns g → LocatedRows C q o h a cx cy n.edge (size_of hull) C.vertices v g
    located-rows n-is R A z y = rw n-is (record {
      mesh = S.mesh;
      center = S.center;
      sound = sweep_sound;
      in_use = found_in;
      outer = found-outer;
      at = rw (← y) found-holds;
      count = (ring-from S.mesh.good.wf S.ring.ring found_in found-outer).2;
      vertex = refl;
      range = R;
      is-angle = A;
      angle = ap turns z;
    })
