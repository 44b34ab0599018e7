-- What `find` and `get` find in rows that hold the ring of the boundary: the located edge, and 01's count of nodes passed. Assumes nothing.
use Rattle.std.specs.Prelude.{ℕ, ◌<◌, ◌≤◌, ◌≡◌, refl, List}
use Rattle.std.proofs.Common.{arith, ◌∙◌, ap, subst}
use Rattle.std.proofs.Math.Path.{sym}
use Rattle.angle.specs.Angle.{IsAngle}
use Rattle.mesh.specs.declared.Counts.{Counts}
use Rattle.mesh.specs.Mesh.{Links}
use Rattle.mesh.specs.Wf.{Wf}
use Rattle.mesh.specs.Area.{boundary_length}
use Rattle.mesh.proofs.BoundaryLaws.{first<, first-outer}
use Rattle.segment.specs.Arc.{holds}
use Rattle.segment.specs.Bucket.{width, floor_of}
use Rattle.sums.specs.Tally.{First, walk, tally}
use Rattle.dcel.specs.Rows.{row_of}
use Rattle.ring.specs.Ring.{full_turn, proper, at_ends, edge_angle, boundary_edges, boundary_angles, located, passed_count}
use Rattle.ring.specs.Sound.{Sound}
use Rattle.ring.specs.Free.{free-rest}
use Rattle.ring.specs.Insert.{On}
use Rattle.ring.proofs.InsertLaws.{node-sole, ring-proper, ring-sound}
use Rattle.ring.specs.Stores.{Linked}
use Rattle.ring.specs.Hull.{HullFrom}
use Rattle.ring.proofs.HullLaws.{linked-back}
use Rattle.ring.proofs.Located.{locate-passed}
use Rattle.ring.proofs.RingOfLaws.{ring-located, ring-ends, ring-from}
use Rattle.ring_rows.specs.declared.Node.{Node}
use Rattle.ring_rows.specs.declared.Hull.{Hull}
use Rattle.ring_rows.specs.declared.Found.{Found}
use Rattle.ring_rows.specs.Rows.{nodes_of, angle_of, edge_of, right_node_of, size_of, NodeRing, RingHeld, Got}
use Rattle.ring_rows.proofs.RowsLaws.{table_of}
use Rattle.ring_rows.specs.Find.{NodeAt, ToFind}
use Rattle.ring_rows.proofs.Laws.{got-at}
use Rattle.hull.specs.Held.{Held}

module _ {C : Counts} {L : Links} {α : ℕ → ℕ} {nodes : List Node} {freed buckets : List ℕ} {h : Hull} (H : Held C L α nodes freed buckets h) where
  -- each bucket's node is in the ring
  pub bucket-on : (i : ℕ) → i < h.buckets → On (right_node_of (nodes_of nodes)) (size_of h) (row_of buckets 0) (row_of buckets i)
  bucket-on i l = subst (λ (m : ℕ). On (right_node_of (nodes_of nodes)) m (row_of buckets 0) (row_of buckets i)) H.ring.count (H.ring.hull.buckets i l).0

  pub size-some : 3 ≤ size_of h
  size-some = let a = H.ring.hull.ring.sound.three in let b = H.ring.count in omega arith

  pub held-ring : NodeRing (nodes_of nodes) h.nodes (size_of h) (row_of buckets 0)
  held-ring = record {
    sound = subst (Sound full_turn (right_node_of (nodes_of nodes)) (angle_of (nodes_of nodes)) (row_of buckets 0)) H.ring.count (ring-sound H.ring.hull.ring);
    all-proper = subst (λ (m : ℕ). tally (at_ends proper (right_node_of (nodes_of nodes)) (angle_of (nodes_of nodes))) (walk m (right_node_of (nodes_of nodes)) (row_of buckets 0)) ≡ m) H.ring.count (ring-proper H.ring.hull.ring);
    valid = H.valid;
    first = H.free.live_below (row_of buckets 0) (0, (let a = size-some in omega arith), refl);
    size_small = let a = H.small in omega arith;
    len-small = H.small;
  }

  -- what `get` asks
  pub held_rows : RingHeld nodes buckets h
  held_rows = record {
    ring = held-ring;
    filled = λ i l. (bucket-on i l, (H.ring.hull.buckets i l).1);
    counted = H.counted;
    node-room = H.node-room;
    bucket-room = H.bucket-room;
  }

  -- what `find` asks: as many nodes are in the ring as are not freed, so that those which are not freed are in it
  pub held-find : ToFind nodes buckets h
  held-find = record {
    rows = held_rows;
    back = linked-back (table_of (nodes_of nodes)) held-ring.sound.closed
        (subst (Linked (table_of (nodes_of nodes)) (row_of buckets 0)) H.ring.count H.ring.hull.links);
    in_use = λ i l d. free-rest
        (λ j k u w z. node-sole held-ring.sound held-ring.all-proper j k u w (ap (angle_of (nodes_of nodes)) z))
        H.free (let a = H.freed-most in omega arith) i l
        (λ j u z. d (ap (edge_of (nodes_of nodes)) (sym z) ∙ H.retired j u));
  }

  -- ---- a node that holds x
  module _ {x i : ℕ} (N : NodeAt nodes buckets h x i) where
    -- THE EDGE
    pub at-located : Wf C L → edge_of (nodes_of nodes) i ≡ located C L α x
    at-located W = ring-located W H.ring x i N.on N.at

    -- the node and the one to its right can be read, and have the angles of the edge's two ends
    pub at-below : (i < h.nodes) × (right_node_of (nodes_of nodes) i < h.nodes)
    at-below = let l = H.free.live_below i N.on in (l, (H.valid i l).right)

    pub at-angles : IsAngle (nodes_of nodes i).angle × IsAngle (nodes_of nodes (right_node_of (nodes_of nodes) i)).angle
    at-angles = ((H.valid i at-below.0).angle, (H.valid (right_node_of (nodes_of nodes) i) at-below.1).angle)

    pub at-ends : Wf C L → (angle_of (nodes_of nodes) i ≡ edge_angle L α (edge_of (nodes_of nodes) i))
        × (angle_of (nodes_of nodes) (right_node_of (nodes_of nodes) i) ≡ edge_angle L α (L.next (edge_of (nodes_of nodes) i)))
    at-ends W = let n = ring-ends W H.ring i N.on in (sym n.0, sym n.1)

  -- ---- as `get` answers, from a bucket
  module _ {x i : ℕ} (l : i < h.buckets) {r : Found} (G : Got (nodes_of nodes) (size_of h) (row_of buckets i) x r) where
    pub got-located : Wf C L → r.edge ≡ located C L α x
    got-located W = G.edge ∙ at-located (got-at held_rows l G) W

  -- THE COUNT, with 8 buckets
  pub got-passed : {x : ℕ} {r : Found} → Wf C L → h.buckets ≡ 8 → x ≤ full_turn → Got (nodes_of nodes) (size_of h) (row_of buckets (floor_of x h.buckets)) x r → r.passed ≡ passed_count full_turn x (boundary_angles C L α)
  unfolding boundary_angles boundary_edges
  got-passed {x} {r} W e l G =
      let R = ring-from W H.ring (first< W) (first-outer W) in
      sym (locate-passed
      (subst (λ (b : ℕ). HullFrom full_turn L.next (edge_angle L α) (table_of (nodes_of nodes)) (row_of buckets) (L.adjacent 0) (boundary_length C L) R.0 b (width b)) e R.1)
      x r.passed l
      (subst (λ (m : ℕ). First (at_ends (holds x) (right_node_of (nodes_of nodes)) (angle_of (nodes_of nodes))) (right_node_of (nodes_of nodes)) m (row_of buckets (floor_of x 8)) r.passed) (sym R.2)
      (subst (λ (b : ℕ). First (at_ends (holds x) (right_node_of (nodes_of nodes)) (angle_of (nodes_of nodes))) (right_node_of (nodes_of nodes)) (size_of h) (row_of buckets (floor_of x b)) r.passed) e G.first)))
