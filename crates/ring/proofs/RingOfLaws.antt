-- Laws of specs/RingOf.antt.
use Rattle.std.specs.Prelude.{◌≡◌, refl, ◌&&◌, T}
use Rattle.std.proofs.Common.{sym, ◌∙◌, ap, subst}
use Rattle.std.proofs.Math.Bool.{Bool}
use Prim.Native.Nat.{ℕ, ◌+◌, ◌%◌, ◌<◌, ◌≤◌}
use native.Mathlib.Omega.{arith}
use Rattle.std.proofs.Math.Dec.{eqb, eqb→eq}
use Rattle.mesh.specs.declared.Counts.{Counts}
use Rattle.mesh.specs.Mesh.{Links, In}
use Rattle.mesh.specs.Wf.{Wf}
use Rattle.mesh.specs.Area.{boundary_length}
use Rattle.segment.specs.Arc.{holds}
use Rattle.segment.specs.Bucket.{width}
use Rattle.sums.proofs.BitLaws.{and_left, and_right, and_both, eq_test}
use Rattle.sums.specs.Bounded.{first_below}
use Rattle.sums.proofs.BoundedLaws.{first-below-at-most, first-below-passes}
use Rattle.sums.specs.Iterate.{iter}
use Rattle.sums.specs.Listed.{pigeonhole}
use Rattle.sums.proofs.TallyLaws.{tally-at}
use Rattle.ring.specs.Ring.{full_turn, proper, edge_angle, at_ends, is_sound_ring, located}
use Rattle.ring.proofs.SegmentsLaws.{holds-first, proper→}
use Rattle.ring.specs.Sound.{Sound}
use Rattle.ring.proofs.SoundLaws.{tile-sole}
use Rattle.ring.specs.Splice.{FitSplice}
use Rattle.ring.specs.Buckets.{ceiling, Sized}
use Rattle.ring.specs.Node.{NodeTable, nodes}
use Rattle.ring.proofs.NodeLaws.{kept-match}
use Rattle.ring.specs.Insert.{On, Bucketed, Insertion}
use Rattle.ring.specs.Inserted.{Rebucketed}
use Rattle.ring.specs.Build.{Built}
use Rattle.ring.proofs.BuildLaws.{built, built-at}
use Rattle.ring.specs.Stores.{Linked}
use Rattle.ring.proofs.StoresLaws.{stored}
use Rattle.ring.specs.Free.{Free, free-fewer}
use Rattle.ring.specs.Hull.{HullFrom}
use Rattle.ring.proofs.HullLaws.{hull-turns, hull-home, kth, on-to, on-from}
use Rattle.ring.specs.WholeInsert.{Stack, InsertParts}
use Rattle.ring.proofs.WholeInsertLaws.{insert-keeps-hull, insert-keeps-freed}
use Rattle.ring.proofs.Boundary.{outer-round, outer-walk, outer-on, sound-outer, outer-sound}
use Rattle.ring.proofs.Located.{node-place, node-ends, node-located}
use Rattle.ring.specs.Covered.{Covered}
use Rattle.ring.specs.RingOf.{RingOf}

-- ---- the nodes of a sound ring are no more than the vertices: their angles differ, and so do their origins
module _ {C : Counts} {L : Links} (W : Wf C L) (α : ℕ → ℕ) (t : T (is_sound_ring C L α)) {e : ℕ} (l : In C e) (o : L.face e ≡ 0) where
  -- the k-th node is this many edges on
  is_kth : ℕ → ℕ → Bool
  is_kth k j = at_ends proper L.next (edge_angle L α) (iter j L.next e) && eqb (nodes L.next (edge_angle L α) j e) k

  place : ℕ → ℕ
  place k = first_below (boundary_length C L) (is_kth k)

  place_is : (k : ℕ) → k < nodes L.next (edge_angle L α) (boundary_length C L) e
      → (place k < boundary_length C L) × T (at_ends proper L.next (edge_angle L α) (iter (place k) L.next e))
      × (nodes L.next (edge_angle L α) (place k) e ≡ k)
  unfolding place is_kth
  place_is k u =
      let r = kth (at_ends proper L.next (edge_angle L α)) L.next (boundary_length C L) e k u in
      let P : ℕ → Bool = λ j. at_ends proper L.next (edge_angle L α) (iter j L.next e) in
      let Q : ℕ → Bool = λ j. eqb (nodes L.next (edge_angle L α) j e) k in
      let b = first-below-at-most (boundary_length C L) (is_kth k) r.0 (and_both (P r.0) (Q r.0) r.2 (eq_test r.3)) in
      let s = r.1 in
      let f = first-below-passes (boundary_length C L) (is_kth k) (omega arith) in
      (omega arith, and_left (P (place k)) (Q (place k)) f, eqb→eq (nodes L.next (edge_angle L α) (place k) e) k (and_right (P (place k)) (Q (place k)) f))

  pub nodes-most : nodes L.next (edge_angle L α) (boundary_length C L) e ≤ C.vertices
  nodes-most =
      pigeonhole C.vertices (nodes L.next (edge_angle L α) (boundary_length C L) e) (λ k. L.origin (iter (place k) L.next e))
      (record {
        below = λ k u. W.ranges.origin< (outer-walk W l o (place k)).0;
        once = λ j k u w z.
            let p = place_is j u in let q = place_is k w in
            let x = edge_angle L α (iter (place j) L.next e) in
            let y = edge_angle L α (iter (place k) L.next e) in
            let s = tile-sole (sound-outer W α t l o) x (place j) (place k) p.0 q.0
            (holds-first x (edge_angle L α (L.next (iter (place j) L.next e))) (proper→ x (edge_angle L α (L.next (iter (place j) L.next e))) p.1))
            (subst (λ (i : ℕ). T (holds i y (edge_angle L α (L.next (iter (place k) L.next e))))) (ap α (sym z)) (holds-first y (edge_angle L α (L.next (iter (place k) L.next e))) (proper→ y (edge_angle L α (L.next (iter (place k) L.next e))) q.1)))
            in
            sym p.2 ∙ ap (λ (i : ℕ). nodes L.next (edge_angle L α) i e) s ∙ q.2;
      })

-- ---- from any boundary edge, and back
module _ {C : Counts} {L : Links} (W : Wf C L) {α : ℕ → ℕ} {τ : NodeTable} {bucket : ℕ → ℕ} {B : ℕ} where
  pub ring_of : {e s : ℕ} → In C e → L.face e ≡ 0
      → HullFrom full_turn L.next (edge_angle L α) τ bucket e (boundary_length C L) s B (width B)
      → RingOf C L α τ bucket B (nodes L.next (edge_angle L α) (boundary_length C L) e)
  ring_of {e} l o H =
      let r = node-place H (bucket 0) (H.buckets 0 (let b = H.sized.eight in omega arith)).0 in
      let b = outer-walk W l o r.0 in
      record {
        hull = hull-home H;
        in_use = subst (In C) (sym r.2) b.0;
        outer = ap L.face r.2 ∙ b.1;
        count =
            ap (λ (x : ℕ). nodes L.next (edge_angle L α) (boundary_length C L) x) r.2
            ∙ tally-at (at_ends proper L.next (edge_angle L α)) L.next (boundary_length C L) e (outer-round W l o) r.0;
      }

  module _ {size : ℕ} (R : RingOf C L α τ bucket B size) where
    pub ring-sound-ring : T (is_sound_ring C L α)
    ring-sound-ring = outer-sound W α R.in_use R.outer R.hull.ring.sound

    pub ring-from : {e : ℕ} → In C e → L.face e ≡ 0
        → (s : ℕ)
        × HullFrom full_turn L.next (edge_angle L α) τ bucket e (boundary_length C L) s B (width B)
        × (nodes L.next (edge_angle L α) (boundary_length C L) e ≡ size)
    ring-from {e} l o =
        let r = outer-on W R.in_use R.outer l o in
        let a = edge_angle L α in let d = τ.edge (bucket 0) in let n = boundary_length C L in (
          iter (nodes L.next a r.0 d) τ.right (bucket 0),
          subst
              (λ (x : ℕ). HullFrom full_turn L.next a τ bucket x n (iter (nodes L.next a r.0 d) τ.right (bucket 0)) B (width B))
              r.2 (hull-turns R.hull r.0),
          ap (λ (x : ℕ). nodes L.next a n x) (sym r.2)
              ∙ tally-at (at_ends proper L.next a) L.next n d (outer-round W R.in_use R.outer) r.0 ∙ R.count,
        )

    pub ring-size : size ≤ C.vertices
    ring-size = subst (λ (x : ℕ). x ≤ C.vertices) R.count (nodes-most W α ring-sound-ring R.in_use R.outer)

    -- the node that holds x has the located edge
    pub ring-located : (x y : ℕ) → On τ.right size (bucket 0) y → T (at_ends (holds x) τ.right τ.angle y)
        → τ.edge y ≡ located C L α x
    ring-located x y m u =
        node-located W α R.in_use R.outer R.hull x y (subst (λ (i : ℕ). On τ.right i (bucket 0) y) (sym R.count) m) u

    -- a node has the angle of its edge's origin, and the node to its right that of the edge's end
    pub ring-ends : (y : ℕ) → On τ.right size (bucket 0) y
        → (edge_angle L α (τ.edge y) ≡ τ.angle y) × (edge_angle L α (L.next (τ.edge y)) ≡ τ.angle (τ.right y))
    ring-ends y m = node-ends R.hull y (subst (λ (i : ℕ). On τ.right i (bucket 0) y) (sym R.count) m)

-- ---- a node that is not in the ring may have any edge
pub ring-edges : {C : Counts} {L : Links} {α : ℕ → ℕ} {τ : NodeTable} {bucket : ℕ → ℕ} {B size : ℕ} (edge' : ℕ → ℕ)
    → ((x : ℕ) → On τ.right size (bucket 0) x → edge' x ≡ τ.edge x)
    → RingOf C L α τ bucket B size
    → RingOf C L α (record { left = τ.left; right = τ.right; angle = τ.angle; edge = edge' }) bucket B size
ring-edges {C} {L} {α} {τ} {bucket} {B} {size} edge' same R =
    let X = R.hull in
    let a = edge_angle L α in let n = boundary_length C L in let d = τ.edge (bucket 0) in
    let τ' : NodeTable = record { left = τ.left; right = τ.right; angle = τ.angle; edge = edge' } in
    let k : (j : ℕ) → j < nodes L.next a n d → edge' (iter j τ.right (bucket 0)) ≡ τ.edge (iter j τ.right (bucket 0)) =
    λ j u. same (iter j τ.right (bucket 0)) (j, (let c = R.count in omega arith), refl) in
    let H : HullFrom full_turn L.next a τ' bucket d n (bucket 0) B (width B) = record {
      ring = record {
        sound = X.ring.sound;
        match = kept-match (record {
          from = λ j u. refl;
          to = λ j u. refl;
          step = λ j u. refl;
          edge_same = k;
          angle-same = λ j u. refl;
          right-same = λ j u. refl;
        }) X.ring.match;
        back = X.ring.back;
      };
      links = X.links;
      low = X.low;
      sized = X.sized;
      buckets = X.buckets;
    } in
    let z : edge' (bucket 0) ≡ d = k 0 (let t = X.ring.sound.three in omega arith) in
    record {
      hull = rw z H;
      in_use = rw z R.in_use;
      outer = rw z R.outer;
      count = rw z R.count;
    }

-- ---- a fresh build, nodes numbered from 0 along the boundary from e
pub ring-built : {C : Counts} {L : Links} (W : Wf C L) {α : ℕ → ℕ} {τ : NodeTable} {bucket : ℕ → ℕ} {e m B : ℕ}
    → T (is_sound_ring C L α) → In C e → L.face e ≡ 0
    → Built L.next (edge_angle L α) τ e (boundary_length C L) m → Linked τ 0 m
    → ((k : ℕ) → k < boundary_length C L → edge_angle L α (iter k L.next e) ≤ full_turn)
    → Sized full_turn B (width B) → Bucketed τ.right τ.angle bucket B (width B) 0 m → RingOf C L α τ bucket B m
ring-built {C} {L} W {α} {τ} {bucket} {e} {m} {B} t l o A K low Z U =
    subst (RingOf C L α τ bucket B) A.size
    (ring_of W l o (record {
      ring = built (sound-outer W α t l o) A;
      links = λ i u. K i (let z = A.size in omega arith);
      low = low;
      sized = Z;
      buckets = subst (Bucketed τ.right τ.angle bucket B (width B) 0) (sym A.size) U;
    }))

-- none is freed yet
pub free-built : {N : ℕ} {next α : ℕ → ℕ} {τ : NodeTable} {e h m : ℕ} → Sound N next α e h
    → Built next α τ e h m → (freed : ℕ → ℕ) → Free (On τ.right m 0) freed 0 m
free-built {m = m} S A freed = record {
  live_below = λ x o. subst (λ (y : ℕ). y < m) (sym (built-at S A o.0 o.1) ∙ o.2) o.1;
  below = λ j u. absurd (omega arith);
  dead = λ j u. absurd (omega arith);
  once = λ i j u. absurd (omega arith);
}

-- the stack of freed nodes does not depend on the node that one starts from
pub free-from : {right freed : ℕ → ℕ} {m s y n len : ℕ} → iter m right s ≡ s → On right m s y
    → Free (On right m s) freed n len → Free (On right m y) freed n len
free-from {right} {m = m} c (k, u, z) F =
    free-fewer (λ x o. on-from x c k (subst (λ (i : ℕ). On right m i x) (sym z) o)) F

pub free-to : {right freed : ℕ → ℕ} {m s y n len : ℕ} → iter m right s ≡ s → On right m s y
    → Free (On right m y) freed n len → Free (On right m s) freed n len
free-to {right} {m = m} c (k, u, z) F = free-fewer (λ x o. subst (λ (i : ℕ). On right m i x) z (on-to x c k o)) F

-- ---- AN INSERT, across a step: from what the ring's code stores, and from the boundary that the step's faces left;
-- `next` and α are those of the boundary before
module _ {C' : Counts} {L' : Links} (W' : Wf C' L') {α'' next α : ℕ → ℕ} {τ : NodeTable} {bucket bucket' : ℕ → ℕ}
    {x : Insertion} {S S' : Stack} {e m n l p q r B : ℕ}
    (K : Covered next α C' L' α'' e m n l p q r) (H : HullFrom full_turn next α τ bucket e (m + n) x.left B (width B))
    (P : FitSplice full_turn next α L'.next (edge_angle L' α'') e m n l p q r) (q-low : q ≤ full_turn)
    (I : InsertParts τ x S S' (nodes next α m e) (nodes next α (m + n) e) (α e) q)
    (U : Rebucketed bucket bucket' B (ceiling (width B) (α e) % B) (ceiling (width B) q % B) (ceiling (width B) (α r) % B)
    x.start x.new) where
  after : HullFrom full_turn L'.next (edge_angle L' α'') (stored τ x l p q) bucket' l (boundary_length C' L') x.start B (width B)
  after = rw K.length (insert-keeps-hull H P q-low I U)

  pub ring-insert : RingOf C' L' α'' (stored τ x l p q) bucket' B (nodes L'.next (edge_angle L' α'') (boundary_length C' L') l)
  ring-insert = ring_of W' K.in_use K.outer after

  pub ring-insert-freed :
      Free (On (stored τ x l p q).right (nodes L'.next (edge_angle L' α'') (boundary_length C' L') l) (bucket' 0))
      S'.entry S'.count S'.used
  ring-insert-freed =
      free-from after.ring.back (after.buckets 0 (let b = H.sized.eight in omega arith)).0
      (rw K.length (insert-keeps-freed H P q-low I))
