-- A point that goes into a triangle or on an edge of a settled mesh, and is refused no flip, leaves it settled but for the edges at its
-- vertex; so where these keep the rule it is settled. Assumes nothing.
use Rattle.std.specs.Prelude.{true, false, List, [], ◌∷◌, ◌≢◌, ◌≡◌, refl, ℕ, ◌+◌, ◌-◌, ◌*◌, ◌/◌, ◌<◌}
use Rattle.std.proofs.lemmas.Bool.{false≢true}
use Rattle.std.proofs.Common.{sym, ◌∙◌, ap, subst, arith}
use Rattle.std.proofs.Math.Decide.{ℕ_discrete}
use borrow.Author.Tests.{eq-eqb, ne_eqb}
use Rattle.corner.specs.Corner.{Extended}
use Rattle.insertion.specs.EdgeSplit.{EdgeSplit}
use Rattle.insertion.specs.HalfEdgeSplit.{HalfEdgeSplit}
use Rattle.insertion.specs.IntoTriangle.{IntoTriangle}
use Rattle.insertion.specs.Operations.{insert_into_triangle, insert_on_edge, split_edge, split_half_edge, with_inner_vertex, with_edge_vertex}
use Rattle.insertion_laws.specs.Below.{four-less, six-less}
use Rattle.insertion_laws.specs.InsertIntoTriangle.{face-triangle, insert-into-triangle-is}
use Rattle.insertion_laws.specs.SplitEdge.{Splittable, split-edge-is}
use Rattle.insertion_laws.specs.SplitHalfEdge.{split-half-edge-is}
use Rattle.location.specs.declared.PositionInTriangulation.{PositionInTriangulation}
use Rattle.location.specs.declared.PositionInTriangulation.TheVariants.{OnVertex, OnFace, OnEdge, OutsideOfConvexHull}
use Rattle.location.specs.Place.{InFace, InEdge}
use Rattle.location.proofs.PlaceFacts.{Certified}
use Rattle.math.specs.declared.Point.{Point}
use Rattle.math.specs.Determinant.{InRange}
use Rattle.mesh.specs.declared.Counts.{Counts}
use Rattle.mesh.specs.Mesh.{Links, In, to}
use Rattle.mesh.specs.Circle.{breaks_circle, Settled}
use Rattle.mesh.proofs.CircleLawsFacts.{settled-half, settled-by}
use Rattle.mesh.specs.Good.{Good}
use Rattle.mesh.proofs.LeftLaws.{faces-differ}
use Rattle.mesh.specs.Operations.{with_vertex}
use Rattle.mesh.specs.Triangle.{Triangle, triangle, rev-in}
use Rattle.mesh.specs.Wf.{Wf}
use Rattle.skipped.specs.Insert.{unflipped, star_edges, legalize_vertex, insert_into_face, insert_in_edge, is_new, places_at, mesh_at}
use Rattle.skipped.proofs.InsertLawsFacts.{face-inserted, edge-inserted}
use Rattle.skipped.proofs.Stars.{triangle-star, edge-star, half-edge-star}
use Rattle.sums.proofs.Cases.{All, None, Distinct}
use Rattle.sums.specs.Half.{rev}
use Rattle.sums.proofs.HalfLaws.{rev-rev}
use Rattle.sums.specs.Put.{put}
use Rattle.sums.proofs.PutLaws.{put_other}
use Rattle.skipped_settled.specs.SettledBut.{KeepsCircle, Across, SettledBut, is_inside}
use Rattle.skipped_settled.specs.TurnLaws.{SameSide}
use Rattle.skipped_settled.proofs.TurnLawsFacts.{same-keeps, unbroken-keeps, keeps-rev}
use Rattle.skipped_settled.proofs.LegalizeLaws.{each-settled}

-- ---- where the edges at the vertex keep the rule too
pub but-settled : {C : Counts} {L : Links} {p : ℕ → Point} {v : ℕ} → SettledBut C L p v []
    → ((e : ℕ) → In C e → L.origin e ≡ v → breaks_circle L p (e / 2) ≡ false) → Settled C L p
but-settled {C} {L} {p} {v} S U = settled-by (λ e h. (at e h (ℕ_discrete (L.origin e) v) (ℕ_discrete (to L e) v)).outside)
  where
    at : (e : ℕ) → In C e → Dec (L.origin e ≡ v) → Dec (to L e ≡ v) → KeepsCircle L p e
    at e h (yes q) d = unbroken-keeps L p e (U e h q)
    at e h (no n) (yes q) = keeps-rev L p e (unbroken-keeps L p (rev e) (U (rev e) (rev-in C h) q))
    at e h (no n) (no m) = S.keeps h n m tt tt

-- ---- an operation that leaves alone what is not at its vertex and not of the list
module _ {C C' : Counts} {L L' : Links} {p p' : ℕ → Point} (G : Good C L p) (S : Settled C L p) (H : Good C' L' p')
    (old : (u : ℕ) → u < C.vertices → p' u ≡ p u) where
  start-settled : {v : ℕ} {l : List ℕ} → All (Across C' L' v) l → Distinct l
      → ((x : ℕ) → In C' x → L'.origin x ≢ v → to L' x ≢ v → None x l → In C x × SameSide L L' x)
      → SettledBut C' L' p' v l
  start-settled X D same = record {
    good = H;
    across = X;
    distinct = D;
    keeps = λ {x} h n m o k.
        let a = same x h n m o in
        let b = same (rev x) (rev-in C' h) m (λ q. n (ap L'.origin (sym (rev-rev x)) ∙ q)) k in
        let i = a.0 in
        let j = rev-in C i in
        let R = G.wf.ranges in
        same-keeps a.1 b.1
        (old _ (R.origin< i)) (old _ (R.origin< j)) (old _ (R.origin< (R.prev< i))) (old _ (R.origin< (R.prev< j)))
        (record { outside = λ y z. settled-half S i y z });
  }

-- ---- a new vertex in a triangle
module _ {C : Counts} {L L' : Links} {a b c bv vb cv vc av va : ℕ} (W : Wf C L) (A : Triangle C L a b c)
    (F : IntoTriangle C (with_inner_vertex C) L L' a b c bv vb cv vc av va) where
  abbrev v : ℕ
  v = C.vertices

  in-across : All (Across (with_inner_vertex C) L' v) (b ∷ c ∷ a ∷ [])
  in-across = let h = A.in-a in let i = A.in_b in let j = A.in_c in (
    record { used = omega arith; far = ap L'.origin F.prev-b ∙ F.origin-vb },
    (
      record { used = omega arith; far = ap L'.origin F.prev-c ∙ F.origin-vc },
      (record { used = omega arith; far = ap L'.origin F.prev-a ∙ F.origin-va }, tt),
    ),
  )

  in-distinct : Distinct (b ∷ c ∷ a ∷ [])
  in-distinct = let n = A.next-a in let m = A.next-b in let k = A.next-c in (
    (λ q. W.faces.apart A.in_b (cc), (λ q. W.faces.apart A.in-a (cc), tt)),
    ((λ q. W.faces.apart A.in_c (cc), tt), (tt, tt)),
  )

  in-same : (x : ℕ) → In (with_inner_vertex C) x → L'.origin x ≢ v → to L' x ≢ v → None x (b ∷ c ∷ a ∷ []) → In C x × SameSide L L' x
  in-same x h n m o =
      let k : In C x = six-less x (2 * C.edges) (omega arith)
      (λ q. m (ap (λ (y : ℕ). L'.origin (rev y)) (q ∙ sym F.bv-is) ∙ ap L'.origin F.rev-bv ∙ F.origin-vb))
      (λ q. n (ap L'.origin (q ∙ sym F.vb-is) ∙ F.origin-vb))
      (λ q. m (ap (λ (y : ℕ). L'.origin (rev y)) (q ∙ sym F.cv-is) ∙ ap L'.origin F.rev-cv ∙ F.origin-vc))
      (λ q. n (ap L'.origin (q ∙ sym F.vc-is) ∙ F.origin-vc))
      (λ q. m (ap (λ (y : ℕ). L'.origin (rev y)) (q ∙ sym F.av-is) ∙ ap L'.origin F.rev-av ∙ F.origin-va))
      (λ q. n (ap L'.origin (q ∙ sym F.va-is) ∙ F.origin-va)) in (
        k,
        record {
          inner = λ i. rw (← F.face-rest (all (b ∷ c ∷ []) k (o.0, (o.1.0, tt)))) i;
          origin = F.origin-rest (all [] k tt);
          far = λ _. ap L'.origin (F.prev-rest (all (a ∷ b ∷ c ∷ []) k (o.1.1.0, (o.0, (o.1.0, tt))))) ∙ F.origin-rest (all [] (W.ranges.prev< k) tt);
        },
      )
    where
      -- an old half-edge is none of the new ones
      all : {y : ℕ} (l : List ℕ) → In C y → None y l → None y (bv ∷ vb ∷ cv ∷ vc ∷ av ∷ va ∷ l)
      all {y} l k r =
          let p = F.bv-is in let q = F.vb-is in let s = F.cv-is in let t = F.vc-is in let u = F.av-is in let w = F.va-is in
          (λ z. omega arith, (λ z. omega arith, (λ z. omega arith, (λ z. omega arith, (λ z. omega arith, (λ z. omega arith, r))))))

-- ---- a new vertex on an inner edge
module _ {C : Counts} {L L' : Links} {e en ep t tn tp e1 t1 e2 t2 e3 t3 : ℕ} (W : Wf C L) (A : Triangle C L e en ep)
    (B : Triangle C L t tn tp) (F : EdgeSplit C (with_inner_vertex C) L L' e en ep t tn tp e1 t1 e2 t2 e3 t3)
    (fg : L.face e ≢ L.face t) where
  split-across : All (Across (with_inner_vertex C) L' C.vertices) (tn ∷ tp ∷ en ∷ ep ∷ [])
  split-across = let h = A.in_b in let i = A.in_c in let j = B.in_b in let k = B.in_c in (
    record { used = omega arith; far = ap L'.origin F.prev-tn ∙ F.origin-t },
    (
      record { used = omega arith; far = ap L'.origin F.prev-tp ∙ F.origin-t1 },
      (
        record { used = omega arith; far = ap L'.origin F.prev-en ∙ F.origin-t2 },
        (record { used = omega arith; far = ap L'.origin F.prev-ep ∙ F.origin-t3 }, tt),
      ),
    ),
  )

  split-distinct : Distinct (tn ∷ tp ∷ en ∷ ep ∷ [])
  split-distinct =
      let a = A.face-b in let b = A.face-c in let c = B.face-b in let d = B.face-c in let n = A.next-b in let m = B.next-b in (
        (λ q. W.faces.apart B.in_b (cc), (λ q. fg (cc), (λ q. fg (cc), tt))),
        ((λ q. fg (cc), (λ q. fg (cc), tt)), ((λ q. W.faces.apart A.in_b (cc), tt), (tt, tt))),
      )

  split-same : (x : ℕ) → In (with_inner_vertex C) x → L'.origin x ≢ C.vertices → to L' x ≢ C.vertices → None x (tn ∷ tp ∷ en ∷ ep ∷ [])
      → In C x × SameSide L L' x
  split-same x h n m o =
      let k : In C x = six-less x (2 * C.edges) (omega arith)
      (λ q. m (ap (λ (y : ℕ). L'.origin (rev y)) (q ∙ sym F.e1-is) ∙ ap L'.origin F.rev-e1 ∙ F.origin-t1))
      (λ q. n (ap L'.origin (q ∙ sym F.t1-is) ∙ F.origin-t1))
      (λ q. m (ap (λ (y : ℕ). L'.origin (rev y)) (q ∙ sym F.e2-is) ∙ ap L'.origin F.rev-e2 ∙ F.origin-t2))
      (λ q. n (ap L'.origin (q ∙ sym F.t2-is) ∙ F.origin-t2))
      (λ q. m (ap (λ (y : ℕ). L'.origin (rev y)) (q ∙ sym F.e3-is) ∙ ap L'.origin F.rev-e3 ∙ F.origin-t3))
      (λ q. n (ap L'.origin (q ∙ sym F.t3-is) ∙ F.origin-t3)) in
      let xe : x ≢ e = λ q. m (ap (λ (y : ℕ). L'.origin (rev y)) q ∙ ap L'.origin F.t-e ∙ F.origin-t) in
      let xt : x ≢ t = λ q. n (ap L'.origin q ∙ F.origin-t) in
      let r = W.links.next-prev k in (
        k,
        record {
          inner = λ i. rw (← F.face-rest (all (e ∷ t ∷ en ∷ tp ∷ []) k (xe, (xt, (o.1.1.0, (o.1.0, tt)))))) i;
          origin = F.origin-rest (all (e ∷ t ∷ []) k (xe, (xt, tt)));
          far = λ _.
              ap L'.origin (F.prev-rest (all (e ∷ t ∷ en ∷ tp ∷ ep ∷ []) k (xe, (xt, (o.1.1.0, (o.1.0, (o.1.1.1.0, tt)))))))
              ∙ F.origin-rest (all (e ∷ t ∷ []) (W.ranges.prev< k)
              (λ q. o.1.1.0 (let s = A.next-a in cc), (λ q. o.0 (let s = B.next-a in cc), tt)));
        },
      )
    where
      all : {y : ℕ} (l : List ℕ) → In C y → None y l → None y (e1 ∷ t1 ∷ e2 ∷ t2 ∷ e3 ∷ t3 ∷ l)
      all {y} l k r =
          let p = F.e1-is in let q = F.t1-is in let s = F.e2-is in let t = F.t2-is in let u = F.e3-is in let w = F.t3-is in
          (λ z. omega arith, (λ z. omega arith, (λ z. omega arith, (λ z. omega arith, (λ z. omega arith, (λ z. omega arith, r))))))

-- ---- a new vertex on an edge of the boundary
module _ {C : Counts} {L L' : Links} {e en ep t tp e1 t1 e2 t2 : ℕ} (W : Wf C L) (A : Triangle C L e en ep)
    (F : HalfEdgeSplit C (with_vertex C) L L' e en ep t tp e1 t1 e2 t2) (outer : L.face t ≡ 0) where
  half-across : All (Across (with_vertex C) L' C.vertices) (en ∷ ep ∷ [])
  half-across = let h = A.in_b in let i = A.in_c in (
    record { used = omega arith; far = ap L'.origin F.prev-en ∙ F.origin-e2 },
    (record { used = omega arith; far = ap L'.origin F.prev-ep ∙ F.origin-t1 }, tt),
  )

  half-distinct : Distinct (en ∷ ep ∷ [])
  half-distinct = ((λ q. W.faces.apart A.in_b (let n = A.next-b in cc), tt), (tt, tt))

  half-same : (x : ℕ) → In (with_vertex C) x → L'.origin x ≢ C.vertices → to L' x ≢ C.vertices → None x (en ∷ ep ∷ [])
      → In C x × SameSide L L' x
  half-same x h n m o =
      let k : In C x = four-less x (2 * C.edges) (omega arith)
      (λ q. m (ap (λ (y : ℕ). L'.origin (rev y)) (q ∙ sym F.e1-is) ∙ ap L'.origin F.rev-e1 ∙ F.origin-t1))
      (λ q. n (ap L'.origin (q ∙ sym F.t1-is) ∙ F.origin-t1))
      (λ q. n (ap L'.origin (q ∙ sym F.e2-is) ∙ F.origin-e2))
      (λ q. m (ap (λ (y : ℕ). L'.origin (rev y)) (q ∙ sym F.t2-is) ∙ ap L'.origin F.rev-t2 ∙ F.origin-e2)) in
      let xt : x ≢ t = λ q. n (ap L'.origin q ∙ F.origin-t) in
      let f = F.face-rest (all (en ∷ []) k (o.0, tt)) in (
        k,
        record {
          inner = λ i. rw (← f) i;
          origin = F.origin-rest (all (t ∷ []) k (xt, tt));
          far = λ i.
              ap L'.origin (F.prev-rest (all (en ∷ ep ∷ t ∷ []) k (o.0, (o.1.0, (xt, tt)))))
              ∙ F.origin-rest (all (t ∷ []) (W.ranges.prev< k) (
                λ q. let g = W.links.face-next (W.ranges.prev< k) in let r = W.links.next-prev k in
                    let z : L.face x ≡ 0 = cc in omega arith,
                tt,
              ));
        },
      )
    where
      all : {y : ℕ} (l : List ℕ) → In C y → None y l → None y (e1 ∷ t1 ∷ e2 ∷ t2 ∷ l)
      all {y} l k r =
          let p = F.e1-is in let q = F.t1-is in let s = F.e2-is in let t = F.t2-is in
          (λ z. omega arith, (λ z. omega arith, (λ z. omega arith, (λ z. omega arith, r))))

-- ---- one point
module _ (room : ℕ) {C : Counts} {L : Links} {p : ℕ → Point} (G : Good C L p) (v : Point) (range : InRange v) (S : Settled C L p) where
  abbrev p' : ℕ → Point
  p' = put p C.vertices v

  old : (u : ℕ) → u < C.vertices → p' u ≡ p u
  old u l = put_other p C.vertices v u (λ z. omega arith)

  abbrev Starts : Counts → Links → Type 0
  Starts K M = SettledBut K M p' C.vertices (star_edges K M C.vertices)

  face-starts : {f : ℕ} → 0 < f → f < C.faces → Good (with_inner_vertex C) (insert_into_triangle L C f) p'
      → Starts (with_inner_vertex C) (insert_into_triangle L C f)
  face-starts i l H =
      let W = G.wf in
      let A = face-triangle W i l in
      let F = insert-into-triangle-is W i l in
      rw (triangle-star W i l) (start-settled G S H old (in-across W A F) (in-distinct W A F) (in-same W A F))

  split-starts : {e : ℕ} → Splittable C L e → Good (with_inner_vertex C) (split_edge L C e) p' → Starts (with_inner_vertex C) (split_edge L C e)
  split-starts {e} T H =
      let W = G.wf in
      let A = triangle W T.half-edge T.inner-left in
      let B = triangle W (rev-in C T.half-edge) T.inner-right in
      let F = split-edge-is W T in
      rw (edge-star W T)
      (start-settled G S H old (split-across W A B F T.differ) (split-distinct W A B F T.differ) (split-same W A B F T.differ))

  half-starts : {e : ℕ} → In C e → 0 < L.face e → L.face (rev e) ≡ 0 → Good (with_vertex C) (split_half_edge L C e) p'
      → Starts (with_vertex C) (split_half_edge L C e)
  half-starts {e} h i z H =
      let W = G.wf in
      let A = triangle W h i in
      let F = split-half-edge-is W h i z in
      rw (half-edge-star W h i z) (start-settled G S H old (half-across W A F z) (half-distinct W A F z) (half-same W A F z))

  edge-starts : {e : ℕ} → In C e → Good (with_edge_vertex L C e) (insert_on_edge L C e) p' → Starts (with_edge_vertex L C e) (insert_on_edge L C e)
  unfolding insert_on_edge with_edge_vertex
  edge-starts {e} h H = go (ℕ_discrete (L.face e) 0) (ℕ_discrete (L.face (rev e)) 0)
    where
      go : Dec (L.face e ≡ 0) → Dec (L.face (rev e) ≡ 0) → Starts (with_edge_vertex L C e) (insert_on_edge L C e)
      go (yes z) d = rw (eq-eqb (L.face e) 0 z)
          (half-starts (rev-in C h) (G.wf.faces.side h z) (ap L.face (rev-rev e) ∙ z) (rw (eq-eqb (L.face e) 0 z) at H))
      go (no n) (yes z) = rw (ne_eqb (L.face e) 0 n, eq-eqb (L.face (rev e)) 0 z)
          (half-starts h (omega arith) z (rw (ne_eqb (L.face e) 0 n, eq-eqb (L.face (rev e)) 0 z) at H))
      go (no n) (no m) = rw (ne_eqb (L.face e) 0 n, ne_eqb (L.face (rev e)) 0 m)
          (split-starts (record { half-edge = h; inner-left = omega arith; inner-right = omega arith; differ = faces-differ G.wf G.turning h (omega arith) })
          (rw (ne_eqb (L.face e) 0 n, ne_eqb (L.face (rev e)) 0 m) at H))

  -- SETTLED BUT FOR THE EDGES AT THE NEW VERTEX
  pub insert-but : (x : PositionInTriangulation) → Certified C L p v x → is_inside x ≡ true → (mesh_at room C L p v x).full ≡ false
      → SettledBut (mesh_at room C L p v x).counts (mesh_at room C L p v x).links (places_at C p v x) C.vertices []
  unfolding is_inside places_at mesh_at is_new insert_into_face insert_in_edge legalize_vertex
  insert-but (OnFace f) I i q =
      each-settled room p' C.vertices _ (unflipped (with_inner_vertex C) (insert_into_triangle L C f) 2)
      (λ _. face-starts I.inner I.below (face-inserted room G v range I).good) q
  insert-but (OnEdge e) I i q =
      each-settled room p' C.vertices _ (unflipped (with_edge_vertex L C e) (insert_on_edge L C e) ((with_edge_vertex L C e).faces - C.faces))
      (λ _. edge-starts I.used (edge-inserted room G v range I).good) q
  insert-but (OutsideOfConvexHull e) I i q = absurd (false≢true i)
  insert-but (OnVertex w) I i q = absurd (false≢true i)

  -- SETTLED, where these keep the rule too; on a vertex that is there nothing is changed
  pub insert-settled : (x : PositionInTriangulation) → Certified C L p v x → is_inside x ≡ true → (mesh_at room C L p v x).full ≡ false
      → ((e : ℕ) → In (mesh_at room C L p v x).counts e → (mesh_at room C L p v x).links.origin e ≡ C.vertices
      → breaks_circle (mesh_at room C L p v x).links (places_at C p v x) (e / 2) ≡ false)
      → Settled (mesh_at room C L p v x).counts (mesh_at room C L p v x).links (places_at C p v x)
  insert-settled x I i q U = but-settled (insert-but x I i q) U

  pub vertex-settled : (w : ℕ)
      → Settled (mesh_at room C L p v (OnVertex w)).counts (mesh_at room C L p v (OnVertex w)).links (places_at C p v (OnVertex w))
  unfolding places_at mesh_at is_new
  vertex-settled w = S
