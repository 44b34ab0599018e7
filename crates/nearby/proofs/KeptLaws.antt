-- A mesh to walk on stays one: where its boundary stays, as by flips and by a new vertex inside a face or an inner edge,
-- and where a boundary edge is split, which makes a straight corner more and no circle more. Assumes nothing.
use Rattle.std.specs.Prelude.{Bool, ◌&&◌, ◌≢◌, ◌⊎◌, ◌≡◌, ℕ, ◌+◌, ◌*◌, ◌<◌}
use Rattle.std.proofs.Math.Bool.{true, false, not}
use Rattle.std.proofs.Common.{inl, inr, sym, ◌∙◌, subst, add-one, eq-eqb, ne_eqb}
use Rattle.std.proofs.Math.Path.{refl, ap, ap₂, subst₂}
use Rattle.std.proofs.Math.Decide.{ℕ_discrete}
use native.Mathlib.Omega.{arith}
use Rattle.sums.specs.Bit.{bit}
use Rattle.sums.specs.Bounded.{count}
use Rattle.sums.proofs.BoundedLaws.{count-suc, count-ext}
use Rattle.sums.specs.Half.{rev}
use Rattle.sums.proofs.HalfLaws.{rev-rev}
use Rattle.sums.specs.Iterate.{iter, Period}
use Rattle.sums.proofs.IterateLaws.{iter-keeps, period-same, period-unique}
use Rattle.math.specs.declared.Point.{Point}
use Rattle.math.specs.declared.Vector.{Vector}
use Rattle.math.specs.Vector.{difference}
use Rattle.mesh.specs.declared.Counts.{Counts}
use Rattle.mesh.specs.Mesh.{Links, In, to}
use Rattle.mesh.specs.Operations.{with_vertex}
use Rattle.mesh.specs.Wf.{Wf}
use Rattle.mesh.specs.Good.{Good}
use Rattle.mesh.specs.Frame.{SameBoundary}
use Rattle.mesh.proofs.FrameLaws.{boundary-refl}
use Rattle.mesh.specs.FlipRun.{FlipRun}
use Rattle.mesh.proofs.FlipRunLaws.{run-good, run-boundary}
use Rattle.mesh.specs.Triangle.{Outer, rev-in}
use Rattle.mesh.proofs.TriangleLaws.{outer, p-e, e-n}
use Rattle.mesh.specs.Area.{boundary_length, hull_edge}
use Rattle.mesh.proofs.BoundaryLaws.{first<, first-outer, boundary-period, boundary-below, boundary-outer}
use Rattle.mesh.proofs.BoundarySequence.{boundary-same}
use Rattle.insertion.specs.Operations.{insert_into_triangle, split_edge, split_half_edge, insert_on_edge, with_inner_vertex, with_edge_vertex}
use Rattle.insertion_laws.specs.InsertIntoTriangle.{insert-into-triangle-keeps, insert-into-triangle-frame}
use Rattle.insertion_laws.specs.SplitEdge.{split-edge-keeps, split-edge-frame}
use Rattle.insertion_laws.specs.EdgeSplitLaws.{splittable}
use Rattle.insertion_laws.specs.SplitHalfEdge.{HalfEdgeSplitFrame, split-half-edge-keeps, split-half-edge-frame}
use Rattle.insertion_laws.specs.HalfEdgeSplitLaws.{split-half-edge-length, split-half-edge-from, split-half-edge-last}
use Rattle.insertion.specs.Plane.{Between}
use Rattle.outline.specs.Outline.{upper, count_boundary, direction, falls_next, full_circles}
use Rattle.outline.specs.HalfPlane.{SameWay}
use Rattle.outline.proofs.HalfPlaneLaws.{RightTurn, same-way-sym, same-way-trans}
use Rattle.outline.proofs.MeshHull.{count-from}
use Rattle.walkable.specs.Walkable.{Walkable}
use Rattle.nearby.specs.Test.{RightTurns}
use Rattle.nearby.specs.Leaves.{leaves_next, leaves_along}
use Rattle.nearby.proofs.TestLaws.{walkable-turns, turns-walkable}
use Rattle.nearby.proofs.WayLaws.{turn-into, turn-from, same-upper, first_part, second-part}

-- ---- the boundary stays, and so do the positions of its vertices
module _ {C C' : Counts} {L L' : Links} (W : Wf C L) (W' : Wf C' L') (S : SameBoundary C L L')
    (old : (x : ℕ) → In C' x → L'.face x ≡ 0 → In C x) {p p' : ℕ → Point}
    (same : (u : ℕ) → u < C.vertices → p' u ≡ p u) where
  pub direction-same : {x : ℕ} → In C x → L.face x ≡ 0 → direction L' p' x ≡ direction L p x
  unfolding direction
  direction-same {x} l o =
      let k = S.keeps l o in
      ap₂ difference (ap p' k.end ∙ same (to L x) (W.ranges.origin< (rev-in C l))) (ap p' k.origin ∙ same (L.origin x) (W.ranges.origin< l))

  pub next-same : {x : ℕ} → In C x → L.face x ≡ 0 → direction L' p' (L'.next x) ≡ direction L p (L.next x)
  next-same l o = ap (direction L' p') (S.keeps l o).next ∙ direction-same (W.ranges.next< l) (W.links.face-next l ∙ o)

  turns_same : RightTurns C L p → RightTurns C' L' p'
  turns_same R = record {
    turns = λ {e = x} i z. let j = old x i z in let o = S.was j z in
        subst₂ (λ (u v : Vector). RightTurn u v) (sym (direction-same j o)) (sym (next-same j o)) (R.turns j o);
  }

  length-same : boundary_length C' L' ≡ boundary_length C L
  length-same = period-unique (boundary-period W')
      (subst (λ (a : ℕ). Period L'.next a (boundary_length C L)) (sym S.adjacent)
      (period-same (λ x. In C x × (L.face x ≡ 0)) (λ x m. (W.ranges.next< m.0, W.links.face-next m.0 ∙ m.1))
      (λ x m. (S.keeps m.0 m.1).next) (first< W, first-outer W) (boundary-period W)))

  -- however a test is left
  pub leaves-same : (t : Vector → Bool) → leaves_along t C' L' p' ≡ leaves_along t C L p
  unfolding count_boundary
  leaves-same t =
      ap (λ (n : ℕ). count n (λ k. leaves_next t L' p' (hull_edge L' k))) length-same
      ∙ count-ext (boundary_length C L) (λ k. leaves_next t L' p' (hull_edge L' k)) (λ k. leaves_next t L p (hull_edge L k))
      (λ k l. ap (leaves_next t L' p') (boundary-same W S k)
      ∙ ap₂ (λ (u v : Vector). t u && not (t v)) (direction-same (boundary-below W k) (boundary-outer W k)) (next-same (boundary-below W k) (boundary-outer W k)))

  circles-same : full_circles C' L' p' ≡ full_circles C L p
  unfolding falls_next
  circles-same = leaves-same upper

  pub same-walkable : Walkable C L p → Walkable C' L' p'
  same-walkable K = turns-walkable W' p' (turns_same (walkable-turns W p K)) (circles-same ∙ K.once)

-- a new position past the vertices in use changes nothing
pub placed-walkable : {C : Counts} {L : Links} → Wf C L → {p p' : ℕ → Point} → ((u : ℕ) → u < C.vertices → p' u ≡ p u)
    → Walkable C L p → Walkable C L p'
placed-walkable W same = same-walkable W W boundary-refl (λ x i z. i) same

-- BY FLIPS
pub flips-walkable : {C : Counts} {L M : Links} {p : ℕ → Point} {n : ℕ} → Good C L p → FlipRun C p L M n → Walkable C L p → Walkable C M p
flips-walkable G r = same-walkable G.wf (run-good G r).wf (run-boundary G r) (λ x i z. i) (λ u l. refl)

module _ {C : Counts} {L : Links} {p p' : ℕ → Point} (G : Good C L p) (same : (u : ℕ) → u < C.vertices → p' u ≡ p u)
    (K : Walkable C L p) where
  -- BY A NEW VERTEX INSIDE A FACE
  pub insert-into-triangle-walkable : {f : ℕ} → 0 < f → f < C.faces → Walkable (with_inner_vertex C) (insert_into_triangle L C f) p'
  insert-into-triangle-walkable i l =
      let F = insert-into-triangle-frame G.wf i l in
      same-walkable G.wf (insert-into-triangle-keeps G.wf i l) F.boundary (λ x h z. F.outer_old h z) same K

  -- BY ONE ON AN INNER EDGE
  pub split-edge-walkable : {e : ℕ} → In C e → 0 < L.face e → 0 < L.face (rev e) → Walkable (with_inner_vertex C) (split_edge L C e) p'
  split-edge-walkable h i j =
      let S = splittable G h i j in
      let F = split-edge-frame G.wf S in
      same-walkable G.wf (split-edge-keeps G.wf S) F.boundary (λ x h z. F.outer_old h z) same K

-- ---- one on the boundary edge of e
module _ {C : Counts} {L : Links} (W : Wf C L) (p : ℕ → Point) {e : ℕ} (h : In C e) (i : 0 < L.face e) (z : L.face (rev e) ≡ 0)
    (Q : Between (p (L.origin e)) (p (L.origin (rev e))) (p C.vertices)) where
  abbrev t : ℕ
  t = rev e

  abbrev N : Links
  N = split_half_edge L C e

  abbrev t2 : ℕ
  t2 = 2 * C.edges + 3

  F : HalfEdgeSplitFrame C (with_vertex C) L N e t (L.prev t) t2 (L.origin e) (L.origin t) (L.origin (L.prev e)) C.vertices
  F = split-half-edge-frame W h i z

  W' : Wf (with_vertex C) N
  W' = split-half-edge-keeps W h i z

  O : Outer C L (L.prev t) t (L.next t) (L.next (L.next t))
  O = outer W (rev-in C h) z

  -- an outer half-edge is not e
  not-e : {x : ℕ} → L.face x ≡ 0 → x ≢ e
  not-e o q = let f = ap L.face q in omega arith

  to-t : to L t ≡ L.origin e
  to-t = ap L.origin (rev-rev e)

  -- the two parts of t point where t did
  at-t : direction L p t ≡ difference (p (L.origin e)) (p (L.origin t))
  unfolding direction
  at-t = ap (λ (u : ℕ). difference (p u) (p (L.origin t))) to-t

  way-t2 : SameWay (direction L p t) (direction N p t2)
  unfolding direction
  way-t2 = subst₂ (λ (u v : Vector). SameWay u v) (sym at-t)
      (ap₂ (λ (u v : ℕ). difference (p u) (p v)) (sym F.end-t2) (sym F.origin-t2)) (first_part (p (L.origin e)) (p (L.origin t)) (p C.vertices) Q)

  way-t : SameWay (direction L p t) (direction N p t)
  unfolding direction
  way-t = subst₂ (λ (u v : Vector). SameWay u v) (sym at-t)
      (ap₂ (λ (u v : ℕ). difference (p u) (p v)) (sym (F.end-t ∙ to-t)) (sym F.origin-t)) (second-part (p (L.origin e)) (p (L.origin t)) (p C.vertices) Q)

  direction-rest : {x : ℕ} → In C x → L.face x ≡ 0 → x ≢ t → direction N p x ≡ direction L p x
  unfolding direction
  direction-rest j o n = let k = F.ends j (not-e o) n in ap₂ (λ (u v : ℕ). difference (p u) (p v)) k.1 k.0

  next-not-t : {x : ℕ} → In C x → x ≢ L.prev t → L.next x ≢ t
  next-not-t j a k = a (sym (W.links.prev-next j) ∙ ap L.prev k)

  next-t : N.next t ≡ L.next t
  next-t = F.next-rest O.in_e z (λ q. p-e W O (sym q))

  -- ---- the corners
  turns-split : RightTurns C L p → RightTurns (with_vertex C) N p
  turns-split R = record { turns = λ {e = x} j o. go (F.was j o) (ℕ_discrete x (L.prev t)) (ℕ_discrete x t) }
    where
      go : {x : ℕ} → (x ≡ t2) ⊎ (In C x × (L.face x ≡ 0)) → Dec (x ≡ L.prev t) → Dec (x ≡ t)
          → RightTurn (direction N p x) (direction N p (N.next x))
      go (inl q) a b = subst (λ (x : ℕ). RightTurn (direction N p x) (direction N p (N.next x))) (sym q)
          (subst (λ (x : ℕ). RightTurn (direction N p t2) (direction N p x)) (sym F.next-t2)
          (inr (same-way-trans (direction N p t2) (direction L p t) (direction N p t) (same-way-sym way-t2) way-t)))
      go (inr k) (yes a) b = subst (λ (x : ℕ). RightTurn (direction N p x) (direction N p (N.next x))) (sym a)
          (subst₂ (λ (u v : Vector). RightTurn u v) (sym (direction-rest O.in_p O.face-p (p-e W O))) (ap (direction N p) (sym F.next-tp))
          (turn-into (direction L p (L.prev t)) (direction L p t) (direction N p t2) way-t2
          (subst (λ (x : ℕ). RightTurn (direction L p (L.prev t)) (direction L p x)) O.next-p (R.turns O.in_p O.face-p))))
      go (inr k) (no a) (yes b) = subst (λ (x : ℕ). RightTurn (direction N p x) (direction N p (N.next x))) (sym b)
          (subst (λ (v : Vector). RightTurn (direction N p t) v)
          (sym (ap (direction N p) next-t ∙ direction-rest O.in-n O.face-n (λ q. e-n W O (sym q))))
          (turn-from (direction L p t) (direction N p t) (direction L p (L.next t)) way-t (R.turns O.in_e z)))
      go (inr (j, o)) (no a) (no b) = subst₂ (λ (u v : Vector). RightTurn u v) (sym (direction-rest j o b))
          (sym (ap (direction N p) (F.next-rest j o a) ∙ direction-rest (W.ranges.next< j) (W.links.face-next j ∙ o) (next-not-t j a)))
          (R.turns j o)

  -- ---- the circles
  upper-at : {x : ℕ} → In C x → L.face x ≡ 0 → upper (direction N p x) ≡ upper (direction L p x)
  upper-at {x} j o = go (ℕ_discrete x t)
    where
      go : Dec (x ≡ t) → upper (direction N p x) ≡ upper (direction L p x)
      go (yes b) = subst (λ (y : ℕ). upper (direction N p y) ≡ upper (direction L p y)) (sym b) (same-upper (direction L p t) (direction N p t) way-t)
      go (no b) = ap upper (direction-rest j o b)

  upper-next : {x : ℕ} → In C x → L.face x ≡ 0 → upper (direction N p (N.next x)) ≡ upper (direction L p (L.next x))
  upper-next {x} j o = go (ℕ_discrete x (L.prev t))
    where
      go : Dec (x ≡ L.prev t) → upper (direction N p (N.next x)) ≡ upper (direction L p (L.next x))
      go (yes a) =
          ap (λ (y : ℕ). upper (direction N p y)) (ap N.next a ∙ F.next-tp)
          ∙ same-upper (direction L p t) (direction N p t2) way-t2
          ∙ ap (λ (y : ℕ). upper (direction L p y)) (sym (ap L.next a ∙ O.next-p))
      go (no a) = ap (λ (y : ℕ). upper (direction N p y)) (F.next-rest j o a) ∙ upper-at (W.ranges.next< j) (W.links.face-next j ∙ o)

  falls_at : {x : ℕ} → In C x → L.face x ≡ 0 → falls_next N p x ≡ falls_next L p x
  unfolding falls_next
  falls_at j o = ap₂ (λ (u v : Bool). u && not v) (upper-at j o) (upper-next j o)

  falls-new : falls_next N p t2 ≡ false
  unfolding falls_next
  falls-new =
      ap₂ (λ (u v : Bool). u && not v) (same-upper (direction L p t) (direction N p t2) way-t2)
      (ap (λ (y : ℕ). upper (direction N p y)) F.next-t2 ∙ same-upper (direction L p t) (direction N p t) way-t)
      ∙ both (upper (direction L p t))
    where
      both : (b : Bool) → (b && not b) ≡ false
      both true = refl
      both false = refl

  -- the boundary from t on
  from-t : (k : ℕ) → In C (iter k L.next t) × (L.face (iter k L.next t) ≡ 0)
  from-t k = iter-keeps (λ x. In C x × (L.face x ≡ 0)) (λ x m. (W.ranges.next< m.0, W.links.face-next m.0 ∙ m.1)) k (O.in_e, z)

  circles-split : full_circles (with_vertex C) N p ≡ full_circles C L p
  circles-split =
      let n = boundary_length C L in
      let in-t : In (with_vertex C) t = let k = O.in_e in omega arith in
      sym (count-from W' (falls_next N p) in-t F.outer-t)
      ∙ ap (λ (m : ℕ). count m (λ k. falls_next N p (iter k N.next t))) (split-half-edge-length W h i z ∙ add-one n)
      ∙ count-suc n (λ k. falls_next N p (iter k N.next t))
      ∙ ap (λ (b : Bool). bit b + count n (λ k. falls_next N p (iter k N.next t))) (ap (falls_next N p) (split-half-edge-last W h i z) ∙ falls-new)
      ∙ add-0 (count n (λ k. falls_next N p (iter k N.next t)))
      ∙ count-ext n (λ k. falls_next N p (iter k N.next t)) (λ k. falls_next L p (iter k L.next t))
      (λ k l. ap (falls_next N p) (split-half-edge-from W h i z k l) ∙ falls_at (from-t k).0 (from-t k).1)
      ∙ count-from W (falls_next L p) O.in_e z
    where
      add-0 : (n : ℕ) → bit false + n ≡ n
      add-0 n = omega arith

  split-kept : Walkable C L p → Walkable (with_vertex C) N p
  split-kept K = turns-walkable W' p (turns-split (walkable-turns W p K)) (circles-split ∙ K.once)

module _ {C : Counts} {L : Links} {p p' : ℕ → Point} (G : Good C L p) (same : (u : ℕ) → u < C.vertices → p' u ≡ p u)
    (K : Walkable C L p) {e : ℕ} (h : In C e) (i : 0 < L.face e)
    (Q : Between (p (L.origin e)) (p (L.origin (rev e))) (p' C.vertices)) where
  -- BY ONE ON A BOUNDARY EDGE
  pub split-half-edge-walkable : L.face (rev e) ≡ 0 → Walkable (with_vertex C) (split_half_edge L C e) p'
  split-half-edge-walkable z =
      let W = G.wf in
      split-kept W p' h i z
      (rw (same (L.origin e) (W.ranges.origin< h), same (L.origin (rev e)) (W.ranges.origin< (rev-in C h))) Q)
      (placed-walkable W same K)

  -- either, as `insert_on_edge` has it
  pub on-edge-walkable : Walkable (with_edge_vertex L C e) (insert_on_edge L C e) p'
  unfolding insert_on_edge with_edge_vertex
  on-edge-walkable = go (ℕ_discrete (L.face (rev e)) 0)
    where
      inner : L.face e ≢ 0
      inner q = omega arith

      go : Dec (L.face (rev e) ≡ 0) → Walkable (with_edge_vertex L C e) (insert_on_edge L C e) p'
      go (yes z) = rw (ne_eqb _ 0 inner, eq-eqb _ 0 z) (split-half-edge-walkable z)
      go (no n) = rw (ne_eqb _ 0 inner, ne_eqb _ 0 n) (split-edge-walkable G same K h i (omega arith))
