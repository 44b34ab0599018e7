-- 01: "mesh and answer entries past the counts in use are untouched": of the operations that put a vertex into a triangle
-- or on an edge. Assumes nothing.
use Rattle.std.specs.Prelude.{◌≡◌, ℕ, ◌<◌}
use Rattle.std.proofs.Common.{◌∙◌, ap, arith, eq-eqb, ne_eqb}
use Rattle.std.proofs.Math.Decide.{ℕ_discrete}
use Rattle.corner.specs.Untouched.{Untouched}
use Rattle.insertion_laws.specs.EdgeSplitLaws.{splittable}
use Rattle.insertion_laws.specs.InsertIntoTriangle.{insert-into-triangle-is}
use Rattle.insertion.specs.Operations.{insert_into_triangle, split_edge, split_half_edge, insert_on_edge, with_inner_vertex, with_edge_vertex}
use Rattle.insertion_laws.specs.SplitEdge.{Splittable, split-edge-is}
use Rattle.insertion_laws.specs.SplitHalfEdge.{split-half-edge-is}
use Rattle.math.specs.declared.Point.{Point}
use Rattle.mesh.specs.declared.Counts.{Counts}
use Rattle.mesh.specs.Mesh.{Links, In}
use Rattle.mesh.specs.Operations.{with_vertex}
use Rattle.mesh.specs.Good.{Good}
use Rattle.mesh.specs.Triangle.{rev-in}
use Rattle.mesh.specs.Wf.{Wf}
use Rattle.sums.specs.Half.{rev}
use Rattle.sums.proofs.HalfLaws.{rev-rev}

module _ {C : Counts} {L : Links} (W : Wf C L) where
  pub insert-into-triangle-untouched : {f : ℕ} → 0 < f → f < C.faces → Untouched (with_inner_vertex C) L (insert_into_triangle L C f)
  insert-into-triangle-untouched {f} i l =
      let F = insert-into-triangle-is W i l in
      let a = W.ranges.adjacent< l in let b = W.ranges.next< a in let c = W.ranges.next< b in
      record {
        next = λ x k. F.next-rest (λ q. omega arith, (λ q. omega arith, (λ q. omega arith, (λ q. omega arith, (λ q. omega arith, (λ q. omega arith, (λ q. omega arith, (λ q. omega arith, (λ q. omega arith, tt)))))))));
        prev = λ x k. F.prev-rest (λ q. omega arith, (λ q. omega arith, (λ q. omega arith, (λ q. omega arith, (λ q. omega arith, (λ q. omega arith, (λ q. omega arith, (λ q. omega arith, (λ q. omega arith, tt)))))))));
        face = λ x k. F.face-rest (λ q. omega arith, (λ q. omega arith, (λ q. omega arith, (λ q. omega arith, (λ q. omega arith, (λ q. omega arith, (λ q. omega arith, (λ q. omega arith, tt))))))));
        origin = λ x k. F.origin-rest (λ q. omega arith, (λ q. omega arith, (λ q. omega arith, (λ q. omega arith, (λ q. omega arith, (λ q. omega arith, tt))))));
        out = λ v k. F.out-rest (λ q. omega arith);
        adjacent = λ g k. F.adjacent-rest (λ q. omega arith) (λ q. omega arith);
      }

  pub split-edge-untouched : {e : ℕ} → Splittable C L e → Untouched (with_inner_vertex C) L (split_edge L C e)
  split-edge-untouched {e} S =
      let F = split-edge-is W S in
      let i = S.half-edge in let j = rev-in C i in
      let a = W.ranges.next< i in let b = W.ranges.prev< i in let c = W.ranges.next< j in let d = W.ranges.prev< j in
      record {
        next = λ x k. F.next-rest (λ q. omega arith, (λ q. omega arith, (λ q. omega arith, (λ q. omega arith, (λ q. omega arith, (λ q. omega arith, (λ q. omega arith, (λ q. omega arith, (λ q. omega arith, (λ q. omega arith, (λ q. omega arith, tt)))))))))));
        prev = λ x k. F.prev-rest (λ q. omega arith, (λ q. omega arith, (λ q. omega arith, (λ q. omega arith, (λ q. omega arith, (λ q. omega arith, (λ q. omega arith, (λ q. omega arith, (λ q. omega arith, (λ q. omega arith, (λ q. omega arith, tt)))))))))));
        face = λ x k. F.face-rest (λ q. omega arith, (λ q. omega arith, (λ q. omega arith, (λ q. omega arith, (λ q. omega arith, (λ q. omega arith, (λ q. omega arith, (λ q. omega arith, (λ q. omega arith, (λ q. omega arith, tt))))))))));
        origin = λ x k. F.origin-rest (λ q. omega arith, (λ q. omega arith, (λ q. omega arith, (λ q. omega arith, (λ q. omega arith, (λ q. omega arith, (λ q. omega arith, (λ q. omega arith, tt))))))));
        out = λ v k. F.out-rest (λ q. omega arith) (λ q. let o = W.ranges.origin< j in omega arith);
        adjacent = λ g k. F.adjacent-rest (λ q. let o = W.ranges.face< i in omega arith) (λ q. let o = W.ranges.face< j in omega arith)
            (λ q. omega arith) (λ q. omega arith);
      }

  pub split-half-edge-untouched : {e : ℕ} → In C e → 0 < L.face e → L.face (rev e) ≡ 0 → Untouched (with_vertex C) L (split_half_edge L C e)
  split-half-edge-untouched {e} i h z =
      let F = split-half-edge-is W i h z in
      let j = rev-in C i in
      let a = W.ranges.next< i in let b = W.ranges.prev< i in let d = W.ranges.prev< j in
      record {
        next = λ x k. F.next-rest (λ q. omega arith, (λ q. omega arith, (λ q. omega arith, (λ q. omega arith, (λ q. omega arith, (λ q. omega arith, (λ q. omega arith, tt)))))));
        prev = λ x k. F.prev-rest (λ q. omega arith, (λ q. omega arith, (λ q. omega arith, (λ q. omega arith, (λ q. omega arith, (λ q. omega arith, (λ q. omega arith, tt)))))));
        face = λ x k. F.face-rest (λ q. omega arith, (λ q. omega arith, (λ q. omega arith, (λ q. omega arith, (λ q. omega arith, tt)))));
        origin = λ x k. F.origin-rest (λ q. omega arith, (λ q. omega arith, (λ q. omega arith, (λ q. omega arith, (λ q. omega arith, tt)))));
        out = λ v k. F.out-rest (λ q. omega arith) (λ q. let o = W.ranges.origin< j in omega arith);
        adjacent = λ g k. F.adjacent-rest (λ q. let o = W.ranges.face< i in omega arith) (λ q. omega arith);
      }

-- `insert_on_edge`, from either half-edge
pub on-edge-untouched : {C : Counts} {L : Links} {p : ℕ → Point} → Good C L p → {e : ℕ} → In C e
    → Untouched (with_edge_vertex L C e) L (insert_on_edge L C e)
unfolding insert_on_edge with_edge_vertex
on-edge-untouched {C} {L} G {e} h = go (ℕ_discrete (L.face e) 0) (ℕ_discrete (L.face (rev e)) 0)
  where
    go : Dec (L.face e ≡ 0) → Dec (L.face (rev e) ≡ 0) → Untouched (with_edge_vertex L C e) L (insert_on_edge L C e)
    go (yes z) d = rw (eq-eqb _ 0 z) (split-half-edge-untouched G.wf {e = rev e} (rev-in C h) (G.wf.faces.side h z) (ap L.face (rev-rev e) ∙ z))
    go (no n) (yes z) = rw (ne_eqb _ 0 n, eq-eqb _ 0 z) (split-half-edge-untouched G.wf h (omega arith) z)
    go (no n) (no m) = rw (ne_eqb _ 0 n, ne_eqb _ 0 m) (split-edge-untouched G.wf (splittable G h (omega arith) (omega arith)))
