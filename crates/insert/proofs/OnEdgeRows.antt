-- What `insert_on_edge` needs of the rows at each call, and what each of its branches leaves: the half-edge e is outer,
-- its reverse t is, or neither is. Assumes nothing.
use mathlib.Core.Logic.{◌≢◌}
use mathlib.Core.List.{List}
use mathlib.Core.Path.{◌≡◌, refl, sym, ◌∙◌, ap, subst⁻¹}
use Prim.Native.Nat.{ℕ, ◌+◌, ◌-◌, ◌<◌}
use native.Mathlib.Omega.{arith}
use lib.IntN.{ℤ}
use lib.ListN.{length}
use borrow.Author.Tests.{eq-eqb, ne_eqb}
use Rattle.corner.specs.Corner.{Extended}
use Rattle.dcel.specs.Rows.{halves_of, links_of, position_of, There}
use Rattle.dcel.specs.MeshHeld.{there, there-rev}
use Rattle.insertion_laws.specs.EdgeSplitLaws.{splittable}
use Rattle.insertion_laws.specs.OnEdge.{inserted-split-edge, inserted-split-half-edge}
use Rattle.insertion.specs.Operations.{split_edge, split_half_edge, insert_on_edge, with_inner_vertex, with_edge_vertex}
use Rattle.insertion.specs.Plane.{Between}
use Rattle.insertion.proofs.PlaneLaws.{between-rev}
use Rattle.math.specs.declared.Point.{Point}
use Rattle.mesh.specs.declared.Counts.{Counts}
use Rattle.mesh.specs.Mesh.{Links, to}
use Rattle.mesh.specs.Operations.{with_vertex}
use Rattle.mesh.specs.Triangle.{rev-in}
use Rattle.skipped.specs.Insert.{legalize_vertex, unflipped, insert_in_edge}
use Rattle.sums.specs.Half.{rev}
use Rattle.sums.proofs.HalfLaws.{rev-rev}
use Rattle.insert.proofs.GrowRows.{vertex-held, grow-by}
use Rattle.insert.specs.InsertRows.{InnerEdgeReady, BoundaryEdgeReady, OnEdgeReady}

-- ---- `insert_on_edge` by its branches
module _ (room : ℕ) (p : ℕ → Point) (C : Counts) (L : Links) (e : ℕ) where
  at-outer : L.face e ≡ 0
      → insert_in_edge room p C L e ≡ legalize_vertex room p (unflipped (with_vertex C) (split_half_edge L C (rev e)) 1) C.vertices
  unfolding insert_in_edge insert_on_edge with_edge_vertex
  at-outer z = let n : C.faces + 1 - C.faces ≡ 1 = omega arith in rw (eq-eqb _ 0 z, n) refl

  at-boundary : 0 < L.face e → L.face (rev e) ≡ 0
      → insert_in_edge room p C L e ≡ legalize_vertex room p (unflipped (with_vertex C) (split_half_edge L C e) 1) C.vertices
  unfolding insert_in_edge insert_on_edge with_edge_vertex
  at-boundary i z =
      let n : C.faces + 1 - C.faces ≡ 1 = omega arith in
      rw (ne_eqb (L.face e) 0 (λ y. omega arith), eq-eqb (L.face (rev e)) 0 z, n) refl

  at_inner : 0 < L.face e → 0 < L.face (rev e)
      → insert_in_edge room p C L e ≡ legalize_vertex room p (unflipped (with_inner_vertex C) (split_edge L C e) 2) C.vertices
  unfolding insert_in_edge insert_on_edge with_edge_vertex
  at_inner i j =
      let n : C.faces + 2 - C.faces ≡ 2 = omega arith in
      rw (ne_eqb (L.face e) 0 (λ y. omega arith), ne_eqb (L.face (rev e)) 0 (λ y. omega arith), n) refl

module _ {C : Counts} {q : List ℤ} {o h a row : List ℕ} {e : ℕ} (R : OnEdgeReady C q o h a row e) where
  abbrev L : Links
  L = links_of o h a

  abbrev p : ℕ → Point
  p = R.ready.places

  pub edge_here : There h e
  edge_here = there (vertex-held R.ready) R.edge

  pub edge-across : {t : ℕ} → t ≡ rev e → There h t
  edge-across z = rw z (there-rev (vertex-held R.ready) R.edge)

  -- ---- what the tests say
  module _ (y : ℕ) {x : ℕ} (f : x ≡ (halves_of h).face y) where
    outer-at : x ≡ 0 → L.face y ≡ 0
    unfolding links_of
    outer-at z = sym f ∙ z

    inner-at : x ≢ 0 → 0 < L.face y
    unfolding links_of
    inner-at z = omega arith

  module _ {t : ℕ} (z : t ≡ rev e) where
    -- ---- e is outer
    outer-ready : L.face e ≡ 0 → BoundaryEdgeReady C q o h a row (rev e)
    outer-ready k =
        let B = R.ready in
        let i = B.good.wf.faces.side R.edge k in
        let j = ap L.face (rev-rev e) ∙ k in
        let b = subst⁻¹ (λ (x : ℕ). Between (p (to L e)) (p (L.origin x)) (position_of q C.vertices)) (rev-rev e) (between-rev R.between) in
        record {
          grow = grow-by B (inserted-split-half-edge B.good B.same B.range (rev-in C R.edge) b i j) refl;
          edge = rev-in C R.edge;
          inner = i;
          outer = j;
        }

    module _ {left : ℕ} (f : left ≡ (halves_of h).face e) where
      pub left-outer : left ≡ 0 → BoundaryEdgeReady C q o h a row t
      left-outer k = rw z (outer-ready (outer-at e f k))

      pub left-row : left ≡ 0 → (m : Extended)
          → m ≡ legalize_vertex (length row) (position_of q) (unflipped (with_vertex C) (split_half_edge L C t) 1) C.vertices
          → m ≡ insert_in_edge (length row) (position_of q) C L e
      left-row k m w = w ∙ rw (z, at-outer (length row) (position_of q) C L e (outer-at e f k)) refl

      module _ (i : left ≢ 0) {right : ℕ} (g : right ≡ (halves_of h).face t) where
        -- ---- its reverse is
        across : L.face t ≡ L.face (rev e)
        across = ap L.face z

        pub right-outer : right ≡ 0 → BoundaryEdgeReady C q o h a row e
        right-outer k =
            let B = R.ready in let i = inner-at e f i in let j = sym across ∙ outer-at t g k in
            record {
              grow = grow-by B (inserted-split-half-edge B.good B.same B.range R.edge R.between i j) refl;
              edge = R.edge;
              inner = i;
              outer = j;
            }

        pub right-row : right ≡ 0 → (m : Extended)
            → m ≡ legalize_vertex (length row) (position_of q) (unflipped (with_vertex C) (split_half_edge L C e) 1) C.vertices
            → m ≡ insert_in_edge (length row) (position_of q) C L e
        right-row k m w = w ∙ sym (at-boundary (length row) (position_of q) C L e (inner-at e f i) (sym across ∙ outer-at t g k))

        -- ---- neither
        both : right ≢ 0 → 0 < L.face (rev e)
        both j = rw across at (inner-at t g j)

        pub inner-ready : right ≢ 0 → InnerEdgeReady C q o h a row e
        inner-ready j =
            let B = R.ready in let i = inner-at e f i in
            record {
              grow = grow-by B (inserted-split-edge B.good B.same B.range R.edge R.between i (both j)) refl;
              edge = splittable B.good R.edge i (both j);
            }

        pub inner-edge-row : right ≢ 0 → (m : Extended)
            → m ≡ legalize_vertex (length row) (position_of q) (unflipped (with_inner_vertex C) (split_edge L C e) 2) C.vertices
            → m ≡ insert_in_edge (length row) (position_of q) C L e
        inner-edge-row j m w = w ∙ sym (at_inner (length row) (position_of q) C L e (inner-at e f i) (both j))
