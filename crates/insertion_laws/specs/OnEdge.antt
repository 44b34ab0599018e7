-- `insert_on_edge`: a new vertex strictly inside any edge of a good mesh leaves it good, with the same area and a
-- smaller height sum; the same of `insert_into_triangle`.
-- And a position in a place of an inner face, as one strictly inside the face or strictly inside the edge of one of its
-- half-edges. Assumes nothing.
use Rattle.std.specs.Prelude.{◌≡◌, ℕ, ◌<◌, ℤ, pos, nat_abs, ◌+ℤ◌, ◌<ℤ◌}
use Rattle.std.proofs.Common.{sym, ◌∙◌, ap, subst, arith}
use Rattle.std.proofs.Math.Decide.{ℕ_discrete}
use borrow.Author.Tests.{eq-eqb, ne_eqb}
use Rattle.algebra.proofs.Order.{abs-falls, add-0<, lt-le}
use Rattle.math.specs.declared.Point.{Point}
use Rattle.math.specs.Determinant.{orient2d, incircle, InRange}
use Rattle.math.proofs.Plane.{orient2d-next}
use Rattle.mesh.specs.declared.Counts.{Counts}
use Rattle.mesh.specs.Mesh.{Links, In}
use Rattle.mesh.specs.Operations.{with_vertex}
use Rattle.mesh.specs.Triangle.{rev-in}
use Rattle.mesh.specs.Area.{area_total, boundary_area, height_sum}
use Rattle.mesh.proofs.AreaLaws.{area-theorem}
use Rattle.mesh.proofs.LeftLaws.{left_at}
use Rattle.mesh.proofs.HeightLawsFacts.{heights-nonneg}
use Rattle.mesh.specs.Good.{Good}
use Rattle.insertion.specs.Operations.{insert_into_triangle, split_edge, split_half_edge, insert_on_edge, with_inner_vertex, with_edge_vertex}
use Rattle.insertion.specs.Plane.{Inside, Between}
use Rattle.insertion.proofs.PlaneLaws.{between-rev, between_first, between-second}
use Rattle.insertion_laws.specs.InTriangle.{inside-circle, between-circle}
use Rattle.insertion_laws.specs.IntoTriangleLaws.{insert-into-triangle-areas, insert-into-triangle-heights, insert-into-triangle-good}
use Rattle.insertion_laws.specs.EdgeSplitLaws.{splittable, split-edge-areas, split-edge-heights, split-edge-good}
use Rattle.insertion_laws.specs.HalfEdgeSplitLaws.{split-half-edge-areas, split-half-edge-heights, split-half-edge-good}
use Rattle.sums.specs.Half.{rev}
use Rattle.sums.proofs.HalfLaws.{rev-rev}

-- strictly between the ends of a side of a triangle that turns left, a position is strictly inside the triangle's circle
pub side-circle : (a b c v : Point) → pos 0 <ℤ orient2d a b c → Between a b v → pos 0 <ℤ incircle a b c v
side-circle a b c v h B = between-circle a b c v h B
    (subst (λ (z : ℤ). pos 0 <ℤ z) (orient2d-next v b c) (between-second a b c v h B))
    (subst (λ (z : ℤ). pos 0 <ℤ z) (orient2d-next a v c ∙ orient2d-next v c a) (between_first a b c v h B))

-- ---- what an insertion leaves: a good mesh of the same area, and of a smaller height sum
pub record Inserted (C C' : Counts) (L L' : Links) (p p' : ℕ → Point) : Type 0 where
  pub good : Good C' L' p'
  pub area : area_total C' L' p' ≡ area_total C L p
  pub boundary : boundary_area C' L' p' ≡ boundary_area C L p
  pub falls : nat_abs (height_sum C' L' p') < nat_abs (height_sum C L p)

-- by the height sum's fall d
inserted : {C C' : Counts} {L L' : Links} {p p' : ℕ → Point} {d : ℤ} → Good C L p → Good C' L' p' → area_total C' L' p' ≡ area_total C L p
    → height_sum C L p ≡ height_sum C' L' p' +ℤ d → pos 0 <ℤ d → Inserted C C' L L' p p'
inserted {p = p} {p' = p'} G H a q k = record {
  good = H;
  area = a;
  boundary = sym (area-theorem H.wf p') ∙ a ∙ area-theorem G.wf p;
  falls = abs-falls q (heights-nonneg H.turning) k;
}

module _ {C : Counts} {L : Links} {p p' : ℕ → Point} (G : Good C L p) (same : (v : ℕ) → v < C.vertices → p' v ≡ p v)
    (r : InRange (p' C.vertices)) where
  pub inserted-into-triangle : {f : ℕ} → 0 < f → f < C.faces
      → Inside (p (L.origin (L.adjacent f))) (p (L.origin (L.next (L.adjacent f))))
      (p (L.origin (L.next (L.next (L.adjacent f))))) (p' C.vertices)
      → Inserted C (with_inner_vertex C) L (insert_into_triangle L C f) p p'
  inserted-into-triangle i l I = inserted G (insert-into-triangle-good G i l same r I) (insert-into-triangle-areas G.wf i l p p' same)
      (insert-into-triangle-heights G.wf i l p p' same) (inside-circle _ _ _ _ (G.turning.left i l) I)

  module _ {e : ℕ} (h : In C e) (B : Between (p (L.origin e)) (p (L.origin (rev e))) (p' C.vertices)) where
    turned : pos 0 <ℤ orient2d (p (L.origin (rev e))) (p (L.origin (rev (rev e)))) (p (L.origin (L.prev (rev e))))
        → pos 0 <ℤ orient2d (p (L.origin (rev e))) (p (L.origin e)) (p (L.origin (L.prev (rev e))))
    turned k = subst (λ (x : ℕ). pos 0 <ℤ orient2d (p (L.origin (rev e))) (p (L.origin x)) (p (L.origin (L.prev (rev e))))) (rev-rev e) k

    pub inserted-split-edge : 0 < L.face e → 0 < L.face (rev e) → Inserted C (with_inner_vertex C) L (split_edge L C e) p p'
    inserted-split-edge i j = let S = splittable G h i j in
        inserted G (split-edge-good G h i j same r B) (split-edge-areas G.wf S p p' same) (split-edge-heights G.wf S p p' same)
        (add-0< (side-circle _ _ _ _ (left_at G.wf G.turning h i) B)
        (lt-le (side-circle _ _ _ _ (turned (left_at G.wf G.turning (rev-in C h) j)) (between-rev B))))

    pub inserted-split-half-edge : 0 < L.face e → L.face (rev e) ≡ 0 → Inserted C (with_vertex C) L (split_half_edge L C e) p p'
    inserted-split-half-edge i z = inserted G (split-half-edge-good G h i z same r B) (split-half-edge-areas G.wf h i z p p' same B.line)
        (split-half-edge-heights G.wf h i z p p' same B.line) (side-circle _ _ _ _ (left_at G.wf G.turning h i) B)

  -- on any edge, from either of its half-edges
  pub inserted-on-edge : {e : ℕ} → In C e → Between (p (L.origin e)) (p (L.origin (rev e))) (p' C.vertices)
      → Inserted C (with_edge_vertex L C e) L (insert_on_edge L C e) p p'
  unfolding insert_on_edge with_edge_vertex
  inserted-on-edge {e} h B = go (ℕ_discrete (L.face e) 0) (ℕ_discrete (L.face (rev e)) 0)
    where
      go : Dec (L.face e ≡ 0) → Dec (L.face (rev e) ≡ 0) → Inserted C (with_edge_vertex L C e) L (insert_on_edge L C e) p p'
      go (yes z) d = rw (eq-eqb _ 0 z) (inserted-split-half-edge {e = rev e} (rev-in C h)
          (subst (λ (x : ℕ). Between (p (L.origin (rev e))) (p (L.origin x)) (p' C.vertices)) (sym (rev-rev e)) (between-rev B))
          (G.wf.faces.side h z) (ap L.face (rev-rev e) ∙ z))
      go (no n) (yes z) = rw (ne_eqb _ 0 n, eq-eqb _ 0 z) (inserted-split-half-edge h B (omega arith) z)
      go (no n) (no m) = rw (ne_eqb _ 0 n, ne_eqb _ 0 m) (inserted-split-edge h B (omega arith) (omega arith))
