-- What the tests of a half-edge, of a face and of a vertex come to, by what was read. Assumes nothing.
use mathlib.Core.Path.{◌≡◌, ◌∙◌, subst}
use mathlib.Core.Bool.{true, false, ◌&&◌}
use mathlib.Core.List.{List}
use Prim.Native.Nat.{ℕ, ◌+◌, ◌*◌, ◌<◌, ◌≤◌}
use native.Mathlib.Numerals.{add-one}
use native.Mathlib.Omega.{arith}
use borrow.Author.Tests.{lt-ltb}
use lib.ListN.{length}
use lib.Dec.{T, ltb, leb, eqb, ltb→lt, leb→le, eqb→eq}
use Rattle.dcel.specs.declared.handles.HalfEdgeEntry.{HalfEdgeEntry}
use Rattle.dcel.specs.Rows.{halves_of, row_of, links_of, EntryOf}
use Rattle.mesh.specs.declared.Counts.{Counts}
use Rattle.mesh.specs.Mesh.{Links, turn}
use Rattle.mesh.specs.Rules.{rules, every, half_edge_in_use, half_edge_linked}
use Rattle.mesh_rules.specs.Holds.{use_tests, link_tests, has_side, half_edge_holds, vertex_holds, face_holds, inner_face_holds, outer_holds, faces_whole, vertices_whole, vertices_hold, counts_hold, all_hold, RowsThere, HalvesThere}
use Rattle.mesh_rules.specs.HoldsRules.{based-of, wide_of, all-hold-rules}
use Rattle.sums.proofs.BitLaws.{is_true, from-true, and_left, and_right}
use Rattle.sums.specs.Bounded.{all_below}
use Rattle.sums.specs.Half.{rev}
use Rattle.sums.specs.Iterate.{period_below}
use Rattle.sums.specs.Orbits.{orbit_total}
use Rattle.sums.proofs.OrbitsLaws.{orbit-total-suc}

-- ---- a half-edge
module _ (C : Counts) (o h a : List ℕ) {e : ℕ} {w : HalfEdgeEntry} (E : EntryOf (halves_of h) e w) where
  use-is : half_edge_in_use C (links_of o h a) e ≡ every (use_tests C w)
  unfolding half_edge_in_use links_of
  use-is = rw (E.next, E.prev, E.face, E.origin)

  pub half-unused : every (use_tests C w) ≡ false → false ≡ half_edge_holds C (links_of o h a) e
  unfolding half_edge_holds
  half-unused u = rw (use-is, u)

  module _ (u : every (use_tests C w) ≡ true) {after : HalfEdgeEntry} (A : EntryOf (halves_of h) w.next after) {back : ℕ} (b : back ≡ (halves_of h).next w.prev)
      {t : ℕ} (r : t ≡ rev e) {other : HalfEdgeEntry} (O : EntryOf (halves_of h) t other) where
    link-is : half_edge_linked (links_of o h a) e ≡ every (link_tests e w after back other)
    unfolding half_edge_linked links_of
    link-is = rw (← r, A.prev, A.face, A.origin, b, O.origin, E.next, E.prev, E.face)

    pub half-unlinked : every (link_tests e w after back other) ≡ false → false ≡ half_edge_holds C (links_of o h a) e
    unfolding half_edge_holds
    half-unlinked k = rw (use-is, u, link-is, k)

    pub half-linked : every (link_tests e w after back other) ≡ true → has_side w.face other.face ≡ half_edge_holds C (links_of o h a) e
    unfolding half_edge_holds links_of
    half-linked k = rw (use-is, u, link-is, k, ← r, E.face, O.face)

-- ---- a face
-- the test of an inner face says nothing of face 0
pub first-face : (C : Counts) (L : Links) → T (inner_face_holds C L 0)
unfolding inner_face_holds
first-face C L = tt

pub inner-face : (C : Counts) (L : Links) (f : ℕ) → 0 < f → face_holds C L f ≡ inner_face_holds C L f
unfolding inner_face_holds
inner-face C L f l = rw (lt-ltb 0 f l)

-- ---- the outer face, whose stored edge is a
module _ (C : Counts) (o h s : List ℕ) {a : ℕ} (p : a ≡ row_of s 0) where
  -- no half-edge is left over
  pub whole_is : {k : ℕ} → k ≡ period_below (2 * C.edges) (links_of o h s).next a → eqb (k + 3 * C.faces) (2 * C.edges + 3) ≡ faces_whole C (links_of o h s)
  unfolding faces_whole links_of
  whole_is q = rw (← p, ← q)

-- ---- a vertex, whose out edge is e
module _ (C : Counts) (o h a : List ℕ) (v : ℕ) {e : ℕ} (p : e ≡ row_of o v) where
  pub vertex-in : T (vertex_holds C (links_of o h a) v) → e < 2 * C.edges
  unfolding links_of
  vertex-in t = let b = (based-of C (links_of o h a) v t).here in let q = p in omega arith

  -- one vertex more in the total of the orbits
  pub orbit-more : {total met : ℕ} → total ≡ orbit_total (2 * C.edges) (turn (links_of o h a)) (links_of o h a).out v → met ≡ period_below (2 * C.edges) (turn (links_of o h a)) e
      → total + met ≡ orbit_total (2 * C.edges) (turn (links_of o h a)) (links_of o h a).out (v + 1)
  unfolding links_of
  orbit-more {total} {met} t m = rw (add-one, orbit-total-suc, ← p, ← t, ← m)

-- ---- all vertices
module _ (C : Counts) (L : Links) where
  pub vertices-fail : false ≡ all_below C.vertices (vertex_holds C L) → false ≡ vertices_hold C L
  unfolding vertices_hold
  vertices-fail e = rw (← e)

  pub vertices-all : {total v : ℕ} → v ≡ C.vertices → T (all_below v (vertex_holds C L)) → total ≡ orbit_total (2 * C.edges) (turn L) L.out v
      → eqb total (2 * C.edges) ≡ vertices_hold C L
  unfolding vertices_hold vertices_whole
  vertices-all e h q = rw (is_true (all_below C.vertices (vertex_holds C L)) (subst (λ (n : ℕ). T (all_below n (vertex_holds C L))) e h), q, e)

-- ---- the counts
module _ (C : Counts) (h : T (counts_hold C)) where
  pub counted : (0 < C.faces) × (C.vertices + C.faces ≡ C.edges + 2) × (C.edges ≤ 3 * C.vertices) × (C.faces ≤ 2 * C.vertices)
  unfolding counts_hold
  counted =
      let s = ltb 0 C.faces in
      let t = eqb (C.vertices + C.faces) (C.edges + 2) in
      let u = leb C.edges (3 * C.vertices) in
      let w = leb C.faces (2 * C.vertices) in
      let h' = and_right s (t && (u && w)) h in
      let h'' = and_right t (u && w) h' in (
        ltb→lt 0 C.faces (and_left s (t && (u && w)) h),
        eqb→eq (C.vertices + C.faces) (C.edges + 2) (and_left t (u && w) h'),
        leb→le C.edges (3 * C.vertices) (and_left u w h''),
        leb→le C.faces (2 * C.vertices) (and_right u w h''),
      )

-- ---- where a sweep fails, a rule does
module _ (C : Counts) (L : Links) where
  pub fails-counts : counts_hold C ≡ false → false ≡ rules C L
  unfolding all_hold
  fails-counts e = let p : false ≡ all_hold C L = rw e in p ∙ all-hold-rules C L

  module _ (a : counts_hold C ≡ true) where
    pub fails-halves : all_below (2 * C.edges) (half_edge_holds C L) ≡ false → false ≡ rules C L
    unfolding all_hold
    fails-halves e = let p : false ≡ all_hold C L = rw (a, e) in p ∙ all-hold-rules C L

    module _ (b : all_below (2 * C.edges) (half_edge_holds C L) ≡ true) where
      pub fails-outer : outer_holds C L ≡ false → false ≡ rules C L
      unfolding all_hold
      fails-outer e = let p : false ≡ all_hold C L = rw (a, b, e) in p ∙ all-hold-rules C L

      module _ (c : outer_holds C L ≡ true) where
        pub fails-whole : faces_whole C L ≡ false → false ≡ rules C L
        unfolding all_hold
        fails-whole e = let p : false ≡ all_hold C L = rw (a, b, c, e) in p ∙ all-hold-rules C L

        module _ (d : faces_whole C L ≡ true) where
          pub fails-inner : all_below C.faces (inner_face_holds C L) ≡ false → false ≡ rules C L
          unfolding all_hold
          fails-inner e = let p : false ≡ all_hold C L = rw (a, b, c, d, e) in p ∙ all-hold-rules C L

          -- the last sweep decides
          pub at-vertices : all_below C.faces (inner_face_holds C L) ≡ true → vertices_hold C L ≡ rules C L
          unfolding all_hold
          at-vertices e = let p : vertices_hold C L ≡ all_hold C L = rw (a, b, c, d, e) in p ∙ all-hold-rules C L

-- ---- what one sweep leaves to the next
module _ {C : Counts} {o h a : List ℕ} (R : RowsThere C o h a) (t : counts_hold C ≡ true) where
  pub halves-there : HalvesThere C h
  halves-there = let n = counted C (from-true t) in record { long = omega arith; small = omega arith }

  pub faces-there : C.faces ≤ length a
  faces-there = let n = counted C (from-true t) in omega arith

  pub some-face : 0 < C.faces
  some-face = (counted C (from-true t)).0

  pub face-there : 0 < length a
  face-there = let n = counted C (from-true t) in omega arith

pub outer-in : (C : Counts) (o h a : List ℕ) → outer_holds C (links_of o h a) ≡ true → row_of a 0 < 2 * C.edges
unfolding links_of
outer-in C o h a t = (wide_of C (links_of o h a) (from-true t)).here
