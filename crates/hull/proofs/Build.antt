-- Nodes numbered in the order of a strict boundary's edges are its ring, and with their buckets filled the rows hold it. Assumes nothing.
use Rattle.std.specs.Prelude.{ℕ, suc, ◌+◌, ◌-◌, ◌%◌, ◌<◌, ◌≤◌, ◌^◌, ◌≡◌, refl, List, T, ℤ, Float, length}
use Rattle.std.proofs.Common.{mod-eq_of_lt, mod-lt, arith, sym, ◌∙◌, ap, subst}
use Rattle.std.proofs.Math.Nat.{mod_self}
use Rattle.std.proofs.Math.Decide.{dec_lt}
use Rattle.mesh.specs.declared.Counts.{Counts}
use Rattle.mesh.specs.Wf.{Wf}
use Rattle.mesh.specs.Area.{boundary_length}
use Rattle.mesh.proofs.BoundaryLaws.{first<, first-outer}
use Rattle.segment.specs.Bucket.{Buckets}
use Rattle.sums.proofs.BitLaws.{bit-yes}
use Rattle.sums.specs.Tally.{walk, tally}
use Rattle.dcel.specs.Rows.{halves_of, row_of, links_of, position_of}
use Rattle.ring.specs.Ring.{full_turn, proper, at_ends}
use Rattle.ring.specs.Center.{turns_about}
use Rattle.ring.proofs.Merged.{sound-round, strict-sound, strict-all}
use Rattle.ring.specs.Sound.{Sound}
use Rattle.ring.specs.Node.{nodes as node_count}
use Rattle.ring.proofs.LocateLaws.{tally-whole}
use Rattle.ring.specs.Free.{Free}
use Rattle.ring.specs.Insert.{Ring, On}
use Rattle.ring.proofs.InsertLaws.{all-proper, ring-sound, ring-proper}
use Rattle.ring.specs.Stores.{Linked}
use Rattle.ring.specs.Build.{Built}
use Rattle.ring.proofs.BuildLaws.{built, built-at}
use Rattle.ring.proofs.Boundary.{outer-sound}
use Rattle.ring.specs.RingOf.{RingOf}
use Rattle.ring.proofs.RingOfLaws.{ring-built, free-built, free-from}
use Rattle.ring.proofs.ResizeLaws.{eight-buckets, buckets-sized}
use Rattle.ring_rows.specs.declared.Node.{Node}
use Rattle.ring_rows.specs.declared.Hull.{Hull}
use Rattle.ring_rows.specs.Rows.{nodes_of, angle_of, edge_of, left_of, right_node_of, ValidNodes, NodeRing, ToFill}
use Rattle.ring_rows.proofs.RowsLaws.{table_of}
use Rattle.hull.specs.Boundary.{edge_at, origin_turns, angles_of, NodesOfEdges, ToBuild}
use Rattle.hull.specs.Held.{Held, FromBoundary}

module _ {p : List ℤ} {h : List ℕ} {cx cy : Float} {start size nodes buckets : ℕ} (B : ToBuild p h cx cy start size nodes buckets) where
  boundary-sound : Sound full_turn (halves_of h).next (origin_turns p h cx cy) start size
  boundary-sound =
      sound-round full_turn (halves_of h).next (origin_turns p h cx cy) start size B.closed
      (strict-sound full_turn (angles_of p h cx cy start size) B.strict)

  -- each edge has a node
  whole : node_count (halves_of h).next (origin_turns p h cx cy) size start ≡ size
  whole = strict-all full_turn (halves_of h).next (origin_turns p h cx cy) start size B.closed B.strict

  each : (k : ℕ) → k < size → T (at_ends proper (halves_of h).next (origin_turns p h cx cy) (edge_at h start k))
  each = all-proper (at_ends proper (halves_of h).next (origin_turns p h cx cy)) (halves_of h).next size start whole

  before : (k : ℕ) → k ≤ size → node_count (halves_of h).next (origin_turns p h cx cy) k start ≡ k
  before k l =
      tally-whole (at_ends proper (halves_of h).next (origin_turns p h cx cy)) (halves_of h).next k start
      (λ j u. bit-yes (at_ends proper (halves_of h).next (origin_turns p h cx cy) (edge_at h start j)) (each j (omega arith)))

  pub size-three : 3 ≤ size
  size-three = let a = boundary-sound.three in let b = whole in omega arith

  module _ {t : ℕ → Node} (D : NodesOfEdges p h cx cy start size t) where
    right-more : (i : ℕ) → suc i < size → right_node_of t i ≡ suc i
    right-more i l = (D i (omega arith)).right ∙ mod-eq_of_lt (omega arith) ∙ one i
      where
        one : (i : ℕ) → i + 1 ≡ suc i
        one i = omega arith

    right-last : (i : ℕ) → suc i ≡ size → right_node_of t i ≡ 0
    right-last i z = (D i (omega arith)).right ∙ ap (λ (x : ℕ). x % size) (one i ∙ z) ∙ mod_self size
      where
        one : (i : ℕ) → i + 1 ≡ suc i
        one i = omega arith

    pub numbered-built : Built (halves_of h).next (origin_turns p h cx cy) (table_of t) start size size
    numbered-built = record {
      size = whole;
      at = λ k l u. (let z = before k (omega arith) in (ap (edge_of t) z ∙ (D k l).edge, ap (angle_of t) z ∙ (D k l).angle));
      step = right-more;
      turn = right-last;
    }

    pub numbered-ring : Ring full_turn (halves_of h).next (origin_turns p h cx cy) (table_of t) start size 0
    numbered-ring = built boundary-sound numbered-built

    numbered-valid : ValidNodes t size
    numbered-valid i l = record {
      angle = (D i l).is-angle;
      edge = subst (λ (x : ℕ). x < 2 ^ 32) (sym (D i l).edge) (B.boundary.rows.edges i);
      left = go (dec_lt 0 i);
      right = subst (λ (x : ℕ). x < size) (sym (D i l).right) (mod-lt (i + 1) (omega arith));
    }
      where
        go : Dec (0 < i) → (t i).left < size
        go (yes u) = let z = (D i l).left-more u in omega arith
        go (no u) = let z = (D i l).left-first (omega arith) in omega arith

    pub numbered-nodes : NodeRing t size size 0
    numbered-nodes = record {
      sound = subst (Sound full_turn (right_node_of t) (angle_of t) 0) whole (ring-sound numbered-ring);
      all-proper =
          subst (λ (m : ℕ). tally (at_ends proper (right_node_of t) (angle_of t)) (walk m (right_node_of t) 0) ≡ m) whole (ring-proper numbered-ring);
      valid = numbered-valid;
      first = let a = size-three in omega arith;
      size_small = B.small;
      len-small = B.small;
    }

    numbered-links : Linked (table_of t) 0 size
    numbered-links i l =
        subst (λ (x : ℕ). left_of t (right_node_of t x) ≡ x) (sym (built-at boundary-sound numbered-built i l)) (go (dec_lt (suc i) size))
      where
        go : Dec (suc i < size) → left_of t (right_node_of t i) ≡ i
        go (yes u) = ap (left_of t) (right-more i u) ∙ (D (suc i) u).left-more (omega arith) ∙ less i
          where
            less : (i : ℕ) → suc i - 1 ≡ i
            less i = omega arith
        go (no u) =
            let z : suc i ≡ size = omega arith in ap (left_of t) (right-last i z) ∙ (D 0 (omega arith)).left-first refl ∙ less i size z
          where
            less : (i size : ℕ) → suc i ≡ size → size - 1 ≡ i
            less i size z = omega arith

-- what `initialize_buckets` asks
pub to_fill : {p : List ℤ} {h : List ℕ} {cx cy : Float} {start size nodes buckets : ℕ}
    → ToBuild p h cx cy start size nodes buckets → {l : List Node} {b : List ℕ} → length l ≡ nodes → length b ≡ buckets
    → NodesOfEdges p h cx cy start size (nodes_of l) → ToFill l b 8 0 size
to_fill {size = size} B u v D =
    record {
      len = size;
      ring = numbered-nodes B D;
      node-room = let a = B.node-room in omega arith;
      counted = eight-buckets;
      bucket-room = let a = B.bucket-room in omega arith;
    }

-- THE RING OF A MESH'S BOUNDARY, built: the rows hold it
pub built-held : (o a : List ℕ) {C : Counts} {p : List ℤ} {h : List ℕ} {cx cy : Float} {size n b : ℕ} {nodes : List Node}
    {freed buckets : List ℕ} {r : Hull}
    → Wf C (links_of o h a) → ToBuild p h cx cy (row_of a 0) size n b → size ≡ boundary_length C (links_of o h a)
    → FromBoundary p h cx cy (row_of a 0) size nodes buckets r
    → size ≤ length nodes → size ≤ length freed → 8 ≤ length buckets
    → Held C (links_of o h a) (turns_about cx cy (position_of p)) nodes freed buckets r
unfolding links_of
built-held o a {C} {p} {h} {cx} {cy} {size} {n} {b} {nodes} {freed} {buckets} {r} K B z F u v w =
    let t = nodes_of nodes in
    let N : r.nodes - r.freed ≡ size = sizes r.nodes r.freed size F.used F.none-freed in
    let A = subst (λ (i : ℕ). Built (halves_of h).next (origin_turns p h cx cy) (table_of t) (row_of a 0) i size) z
    (numbered-built B F.numbered) in
    let S = subst (Sound full_turn (halves_of h).next (origin_turns p h cx cy) (row_of a 0)) z (boundary-sound B) in
    let R : RingOf C (links_of o h a) (turns_about cx cy (position_of p)) (table_of t) (row_of buckets) 8 size =
    ring-built K (outer-sound K (turns_about cx cy (position_of p)) (first< K) (first-outer K) S) (first< K) (first-outer K) A
    (numbered-links B F.numbered)
    (λ k l. let m : k < size = omega arith in subst (λ (x : ℕ). x ≤ full_turn) (F.numbered k m).angle (F.numbered k m).is-angle.small)
    (buckets-sized eight-buckets) F.filled in
    record {
      ring =
          subst (λ (i : ℕ). RingOf C (links_of o h a) (turns_about cx cy (position_of p)) (table_of t) (row_of buckets) r.buckets i) (sym N)
          (subst (λ (i : ℕ). RingOf C (links_of o h a) (turns_about cx cy (position_of p)) (table_of t) (row_of buckets) i size) (sym F.eight) R);
      free = subst (λ (m : ℕ). Free (On (right_node_of t) m (row_of buckets 0)) (row_of freed) r.freed r.nodes) (sym N)
          (subst (λ (i : ℕ). Free (On (right_node_of t) size (row_of buckets 0)) (row_of freed) i r.nodes) (sym F.none-freed)
          (subst (Free (On (right_node_of t) size (row_of buckets 0)) (row_of freed) 0) (sym F.used)
          (free-from (numbered-nodes B F.numbered).sound.closed (F.filled 0 (omega arith)).0 (free-built S A (row_of freed)))));
      retired = λ j l. absurd (let e = F.none-freed in omega arith);
      freed-most = let e = F.none-freed in omega arith;
      valid = subst (ValidNodes t) (sym F.used) (numbered-valid B F.numbered);
      counted = subst Buckets (sym F.eight) eight-buckets;
      node-room = let e = F.used in omega arith;
      freed-room = let e = F.used in omega arith;
      bucket-room = let e = F.eight in omega arith;
      small = let e = F.used in let s = B.small in omega arith;
    }
  where
    sizes : (m k size : ℕ) → m ≡ size → k ≡ 0 → m - k ≡ size
    sizes m k size e f = omega arith
