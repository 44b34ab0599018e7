-- No left corner is left by an insertion that is refused no flip, where there was none; so the convexity stage after the
-- skipped points changes nothing. Assumes nothing.
use Rattle.std.specs.Prelude.{Bool, List, ◌≢◌, ◌⊎◌, ◌≡◌, ℤ, pos, ◌≤ℤ◌}
use Rattle.std.proofs.Math.Bool.{true, false, cond}
use Rattle.std.proofs.lemmas.Bool.{false≢true}
use Rattle.std.proofs.Common.{inl, inr, ⊎_elim, sym, ◌∙◌, ap₂, subst, eq-eqb, ne_eqb}
use Rattle.std.proofs.Math.Path.{refl, ap}
use Prim.Native.Nat.{ℕ, zero, suc, ◌+◌, ◌*◌, ◌^◌, ◌<◌, ◌≤◌}
use Rattle.std.proofs.Math.Decide.{ℕ_discrete}
use Rattle.std.proofs.Math.Nat.{add-zero}
use native.Mathlib.Omega.{arith}
use Rattle.std.specs.Int.Signed.{≤ℤ_refl}
use Rattle.algebra.proofs.RingLaws.{#◌}
use Rattle.algebra.proofs.Sign.{Pos, ◌*⁺◌, ◌*°◌, ◌+⁺◌, weak, pos-in, le_in, le-by, cases, refute, eq-in, zero°, ◌*⁰◌}
use Rattle.convexity.specs.Convexity.{convexity, NoLeftCorner}
use Rattle.convexity.proofs.ConvexityLawsFacts.{convexity-good, convexity-convex, convexity-bound, run-corners}
use Rattle.corner.specs.Corner.{Extended}
use Rattle.insertion.specs.Operations.{insert_into_triangle, split_half_edge, insert_on_edge, with_inner_vertex, with_edge_vertex}
use Rattle.insertion_laws.specs.InsertIntoTriangle.{insert-into-triangle-frame}
use Rattle.insertion_laws.specs.EdgeSplitLaws.{splittable}
use Rattle.insertion.specs.Plane.{Between}
use Rattle.insertion_laws.specs.SplitEdge.{split-edge-frame}
use Rattle.insertion_laws.specs.SplitHalfEdge.{HalfEdgeSplitFrame, split-half-edge-frame, split-half-edge-keeps}
use Rattle.location.proofs.LocateLaws.{locate-good}
use Rattle.location.specs.declared.PositionInTriangulation.{PositionInTriangulation}
use Rattle.location.specs.declared.PositionInTriangulation.TheVariants.{OnVertex, OnFace, OnEdge, OutsideOfConvexHull}
use Rattle.location.specs.Place.{InFace, InEdge}
use Rattle.location.proofs.PlaceFacts.{Certified}
use Rattle.location.specs.Scan.{locate_point}
use Rattle.math.specs.declared.Point.{Point}
use Rattle.math.specs.Determinant.{InRange, Orient2d, Factor, Dot, Minus, orient2d, factor}
use Rattle.math.proofs.Plane.{E·, A, B, C, D, env, orient2d-next}
use Rattle.mesh.specs.declared.Counts.{Counts}
use Rattle.mesh.specs.Mesh.{Links, In, to}
use Rattle.mesh.specs.Operations.{with_vertex}
use Rattle.mesh.specs.Area.{at_corners}
use Rattle.mesh.specs.Frame.{SameBoundary}
use Rattle.mesh.specs.Good.{Good}
use Rattle.conflicts.proofs.FlipsWithinLaws.{within-room}
use Rattle.mesh.specs.Triangle.{Outer, rev-in}
use Rattle.mesh.proofs.TriangleLaws.{outer, p-e, e-n}
use Rattle.mesh.specs.Wf.{Wf}
use Rattle.sums.specs.Half.{rev}
use Rattle.sums.proofs.HalfLaws.{rev-rev}
use Rattle.sums.specs.Put.{put}
use Rattle.sums.proofs.PutLaws.{put_same, put_other}
use Rattle.skipped.specs.LegalizeVertex.{Legalized}
use Rattle.skipped.proofs.LegalizeVertexLaws.{legalize-vertex}
use Rattle.skipped.proofs.CornersLaws.{corner-same}
use Rattle.skipped.specs.Insert.{unflipped, insert_into_face, insert_in_edge, is_new, places_at, mesh_at, insert_point}
use Rattle.skipped.proofs.InsertLawsFacts.{face-inserted, edge-between, edge-inserted, edge-legalized}
use Rattle.skipped.proofs.OutsideCorners.{corners-placed, outside-corners}
use Rattle.skipped.specs.Fill.{Filling, insert_on, filled_by, passed_by, fill_point, fill_after, fill_from, convex_after, Completing, complete_mesh}
use Rattle.skipped.proofs.FillLawsFacts.{fill-good}
use Rattle.skipped.proofs.StillLaws.{convexity-still}

-- ---- a corner beside a point v that is strictly between a and b
between-right : (a b v x : Point) → Between a b v → orient2d x b a ≤ℤ pos 0 → orient2d x b v ≤ℤ pos 0
unfolding orient2d factor
between-right a b v x Q h = ⊎_elim (λ k. absurd (no k)) (λ n. le-by n (Orient2d E· D B C) (# 0) refl) (cases ρ (Orient2d E· D B C))
  where
    ρ : List ℤ
    ρ = env a b v x

    no : Pos ρ (Orient2d E· D B C) → ⊥
    no k = refute (k *⁺ (pos-in ρ (Factor E· A B C) Q.after +⁺ weak (pos-in ρ (Factor E· B A C) Q.before))
        +⁺ le_in ρ (Orient2d E· D B A) (# 0) h *° weak (pos-in ρ (Factor E· B A C) Q.before)
        +⁺ zero° (Dot E· (Minus E· B D) (Minus E· A B) *⁰ eq-in ρ (Orient2d E· A B C) (# 0) Q.line)) tt

between_left : (a b v y : Point) → Between a b v → orient2d b a y ≤ℤ pos 0 → orient2d v a y ≤ℤ pos 0
unfolding orient2d factor
between_left a b v y Q h = ⊎_elim (λ k. absurd (no k)) (λ n. le-by n (Orient2d E· C A D) (# 0) refl) (cases ρ (Orient2d E· C A D))
  where
    ρ : List ℤ
    ρ = env a b v y

    no : Pos ρ (Orient2d E· C A D) → ⊥
    no k = refute (k *⁺ (pos-in ρ (Factor E· A B C) Q.after +⁺ weak (pos-in ρ (Factor E· B A C) Q.before))
        +⁺ le_in ρ (Orient2d E· B A D) (# 0) h *° weak (pos-in ρ (Factor E· A B C) Q.after)
        +⁺ zero° (Dot E· (Minus E· A B) (Minus E· D A) *⁰ eq-in ρ (Orient2d E· A B C) (# 0) Q.line)) tt

-- ---- an operation that leaves the boundary
inner-corners : {C C' : Counts} {L L' : Links} {p : ℕ → Point} → Wf C L → SameBoundary C L L'
    → ((x : ℕ) → In C' x → L'.face x ≡ 0 → In C x) → NoLeftCorner C L p → NoLeftCorner C' L' p
inner-corners {p = p} W S was N = record {
  corner = λ {e = x} i z. let j = was x i z in
      subst (λ (y : ℤ). y ≤ℤ pos 0) (sym (corner-same p W S j (S.was j z))) (N.corner j (S.was j z));
}

-- ---- a new vertex on the boundary edge of e
module _ {C : Counts} {L : Links} (W : Wf C L) {p : ℕ → Point} {e : ℕ} (h : In C e) (i : 0 < L.face e) (z : L.face (rev e) ≡ 0)
    (Q : Between (p (L.origin e)) (p (L.origin (rev e))) (p C.vertices)) (N : NoLeftCorner C L p) where
  abbrev t : ℕ
  t = rev e

  abbrev K : Links
  K = split_half_edge L C e

  abbrev t2 : ℕ
  t2 = 2 * C.edges + 3

  F : HalfEdgeSplitFrame C (with_vertex C) L K e t (L.prev t) t2 (L.origin e) (L.origin t) (L.origin (L.prev e)) C.vertices
  F = split-half-edge-frame W h i z

  W' : Wf (with_vertex C) K
  W' = split-half-edge-keeps W h i z

  O : Outer C L (L.prev t) t (L.next t) (L.next (L.next t))
  O = outer W (rev-in C h) z

  -- an outer half-edge is not e
  not-e : {x : ℕ} → L.face x ≡ 0 → x ≢ e
  not-e o q = let f = ap L.face q in omega arith

  to-t : to L t ≡ L.origin e
  to-t = ap L.origin (rev-rev e)

  in' : {x : ℕ} → In C x → In (with_vertex C) x
  in' j = omega arith

  -- the third point of a corner, by the end of its second half-edge
  third : (x : ℕ) {y : ℕ} → In C y → K.next x ≡ y → K.origin (K.next (K.next x)) ≡ to K y
  third x {y} j q = ap (λ (u : ℕ). K.origin (K.next u)) q ∙ W'.links.origin-next (in' j)

  at_new : at_corners orient2d K p t2 ≤ℤ pos 0
  at_new =
      subst (λ (y : ℤ). y ≤ℤ pos 0)
      (ap₂ (λ (u : ℕ) (q : ℕ). orient2d (p u) (p q) (p (L.origin e))) (sym F.origin-t2) (sym (ap K.origin F.next-t2 ∙ F.origin-t))
      ∙ ap (λ (u : ℕ). orient2d (p (K.origin t2)) (p (K.origin (K.next t2))) (p u)) (sym (third t2 O.in_e F.next-t2 ∙ F.end-t ∙ to-t)))
      (subst (λ (y : ℤ). y ≤ℤ pos 0) (sym (sym (orient2d-next (p (L.origin e)) (p (L.origin t)) (p C.vertices)) ∙ Q.line)) (≤ℤ_refl (pos 0)))

  at_before : at_corners orient2d K p (L.prev t) ≤ℤ pos 0
  at_before =
      let n = F.next-tp in let g = O.next-p in
      subst (λ (y : ℤ). y ≤ℤ pos 0)
      (ap₂ (λ (u q : ℕ). orient2d (p u) (p q) (p C.vertices)) (sym (F.ends O.in_p (not-e O.face-p) (p-e W O)).0) (sym (ap K.origin n ∙ F.origin-t2))
      ∙ ap (λ (u : ℕ). orient2d (p (K.origin (L.prev t))) (p (K.origin (K.next (L.prev t)))) (p u))
      (sym (ap (λ (u : ℕ). K.origin (K.next u)) n ∙ ap K.origin F.next-t2 ∙ F.origin-t)))
      (between-right (p (L.origin e)) (p (L.origin t)) (p C.vertices) (p (L.origin (L.prev t))) Q
      (subst (λ (y : ℤ). y ≤ℤ pos 0)
      (ap₂ (λ (u q : ℕ). orient2d (p (L.origin (L.prev t))) (p (L.origin u)) (p q)) g (ap (λ (u : ℕ). L.origin (L.next u)) g ∙ W.links.origin-next O.in_e ∙ to-t))
      (N.corner O.in_p O.face-p)))

  next-t : K.next t ≡ L.next t
  next-t = F.next-rest O.in_e z (λ q. p-e W O (sym q))

  at_after : at_corners orient2d K p t ≤ℤ pos 0
  at_after =
      let n = L.next t in
      subst (λ (y : ℤ). y ≤ℤ pos 0)
      (ap₂ (λ (u q : ℕ). orient2d (p u) (p q) (p (to L n))) (sym F.origin-t) (sym (W'.links.origin-next (in' O.in_e) ∙ F.end-t ∙ to-t))
      ∙ ap (λ (u : ℕ). orient2d (p (K.origin t)) (p (K.origin (K.next t))) (p u))
      (sym (third t O.in-n next-t ∙ (F.ends O.in-n (not-e O.face-n) (λ q. e-n W O (sym q))).1)))
      (between_left (p (L.origin e)) (p (L.origin t)) (p C.vertices) (p (to L n)) Q
      (subst (λ (y : ℤ). y ≤ℤ pos 0)
      (ap₂ (λ (u q : ℕ). orient2d (p (L.origin t)) (p u) (p q)) (W.links.origin-next O.in_e ∙ to-t) (W.links.origin-next O.in-n))
      (N.corner O.in_e z)))

  at_other : {x : ℕ} → In C x → L.face x ≡ 0 → x ≢ L.prev t → x ≢ t → at_corners orient2d K p x ≤ℤ pos 0
  at_other {x} j o a b =
      let y = L.next x in
      let jy = W.ranges.next< j in
      let oy = W.links.face-next j ∙ o in
      let q = F.next-rest j o a in
      let not_t : y ≢ t = λ k. a (sym (W.links.prev-next j) ∙ ap L.prev k) in
      let u = F.ends j (not-e o) b in
      let w = F.ends jy (not-e oy) not_t in
      subst (λ (s : ℤ). s ≤ℤ pos 0)
      (ap₂ (λ (c d : ℕ). orient2d (p c) (p d) (p (L.origin (L.next y)))) (sym u.0) (sym (ap K.origin q ∙ w.0))
      ∙ ap (λ (c : ℕ). orient2d (p (K.origin x)) (p (K.origin (K.next x))) (p c)) (W.links.origin-next jy ∙ sym (third x jy q ∙ w.1)))
      (N.corner j o)

  pub half-edge-corners : NoLeftCorner (with_vertex C) K p
  half-edge-corners = record { corner = λ {e = x} j o. go (F.was j o) (ℕ_discrete x (L.prev t)) (ℕ_discrete x t) }
    where
      go : {x : ℕ} → (x ≡ t2) ⊎ (In C x × (L.face x ≡ 0)) → Dec (x ≡ L.prev t) → Dec (x ≡ t) → at_corners orient2d K p x ≤ℤ pos 0
      go (inl q) a b = subst (λ (y : ℕ). at_corners orient2d K p y ≤ℤ pos 0) (sym q) at_new
      go (inr k) (yes a) b = subst (λ (y : ℕ). at_corners orient2d K p y ≤ℤ pos 0) (sym a) at_before
      go (inr k) (no a) (yes b) = subst (λ (y : ℕ). at_corners orient2d K p y ≤ℤ pos 0) (sym b) at_after
      go (inr k) (no a) (no b) = at_other k.0 k.1 a b

-- ---- flips leave the corners
legal-corners : {p : ℕ → Point} {m r : Extended} → Good m.counts m.links p → Legalized p m r → NoLeftCorner m.counts m.links p
    → NoLeftCorner r.counts r.links p
legal-corners {p} {m} {r} G K N = subst (λ (D : Counts). NoLeftCorner D r.links p) (sym K.counts) (run-corners G K.run N)

-- ---- one point
module _ (room : ℕ) {C : Counts} {L : Links} {p : ℕ → Point} (G : Good C L p) (v : Point) (range : InRange v)
    (N : NoLeftCorner C L p) where
  abbrev p' : ℕ → Point
  p' = put p C.vertices v

  old' : (u : ℕ) → u < C.vertices → p' u ≡ p u
  old' u l = put_other p C.vertices v u (λ z. omega arith)

  N' : NoLeftCorner C L p'
  N' = corners-placed G.wf old' N

  face-corners : {f : ℕ} → InFace C L p v f → NoLeftCorner (insert_into_face room p' C L f).counts (insert_into_face room p' C L f).links p'
  unfolding insert_into_face
  face-corners {f} I =
      let M = face-inserted room G v range I in
      let F = insert-into-triangle-frame G.wf I.inner I.below in
      legal-corners M.good (legalize-vertex room p' (unflipped (with_inner_vertex C) (insert_into_triangle L C f) 2) M.good (omega arith))
      (inner-corners G.wf F.boundary (λ x i z. F.outer_old i z) N')

  module _ {e : ℕ} (I : InEdge C L p v e) where
    Q : Between (p' (L.origin e)) (p' (L.origin (rev e))) (p' C.vertices)
    Q = rw (old' _ (G.wf.ranges.origin< I.used), old' _ (G.wf.ranges.origin< (rev-in C I.used)), put_same p C.vertices v) (edge-between room G v range I)

    split-corners : NoLeftCorner (with_edge_vertex L C e) (insert_on_edge L C e) p'
    unfolding insert_on_edge with_edge_vertex
    split-corners = go (ℕ_discrete (L.face (rev e)) 0)
      where
        inner : L.face e ≢ 0
        inner q = let k = I.inner in omega arith

        go : Dec (L.face (rev e) ≡ 0) → NoLeftCorner (with_edge_vertex L C e) (insert_on_edge L C e) p'
        go (yes z) = rw (ne_eqb _ 0 inner, eq-eqb _ 0 z) (half-edge-corners G.wf I.used I.inner z Q N')
        go (no n) = let F = split-edge-frame G.wf (splittable G I.used I.inner (omega arith)) in
            rw (ne_eqb _ 0 inner, ne_eqb _ 0 n) (inner-corners G.wf F.boundary (λ x i z. F.outer_old i z) N')

    edge-corners : NoLeftCorner (insert_in_edge room p' C L e).counts (insert_in_edge room p' C L e).links p'
    edge-corners = legal-corners (edge-inserted room G v range I).good (edge-legalized room G v range I) split-corners

  pub insert-corners-at : (x : PositionInTriangulation) → Certified C L p v x → (mesh_at room C L p v x).full ≡ false
      → NoLeftCorner (mesh_at room C L p v x).counts (mesh_at room C L p v x).links (places_at C p v x)
  unfolding places_at mesh_at is_new
  insert-corners-at (OnFace f) I q = face-corners I
  insert-corners-at (OnEdge e) I q = edge-corners I
  insert-corners-at (OutsideOfConvexHull e) I q = outside-corners room G I.used I.outer I.left old' (put_same p C.vertices v) range N q
  insert-corners-at (OnVertex w) I q = N

  -- NO LEFT CORNER IS LEFT by an insertion that is refused no flip
  pub insert-corners : let t = insert_point room C L p v in t.mesh.full ≡ false
      → NoLeftCorner t.mesh.counts t.mesh.links t.positions
  unfolding insert_point
  insert-corners = insert-corners-at (locate_point C L p v) (locate-good G v)

-- ---- the list
module _ (room : ℕ) {C : Counts} {L : Links} {p : ℕ → Point} (G : Good C L p) (skipped : ℕ → Bool) (point : ℕ → Point)
    {N : ℕ} (range : (i : ℕ) → i < N → InRange (point i)) (start : NoLeftCorner C L p) where
  abbrev at : ℕ → Filling
  at n = fill_after room C L p skipped point n

  abbrev Convex : Filling → Type 0
  Convex s = NoLeftCorner s.counts s.links s.positions

  on : (n : ℕ) → n < N → ((at n).full ≡ false → Convex (at n)) → (at (suc n)).full ≡ false → Convex (at (suc n))
  unfolding fill_after fill_point
  on n l K = go (at n).full refl (skipped n)
    where
      go : (f : Bool) → (at n).full ≡ f → (b : Bool)
          → let s = cond f (at n) (cond b (filled_by (at n) (insert_on room (at n) (point n))) (passed_by (at n))) in s.full ≡ false
          → Convex s
      go true q b z = K z
      go false q true z = insert-corners room (fill-good room G skipped point range n (omega arith)) (point n) (range n l) (K q) z
      go false q false z = K q

  pub fill-corners : (n : ℕ) → n ≤ N → (at n).full ≡ false → Convex (at n)
  unfolding fill_after
  fill-corners zero l q = start
  fill-corners (suc n) l q = on n l (fill-corners n (omega arith)) q

-- ---- the finish
module _ (room : ℕ) {C : Counts} {L : Links} {p : ℕ → Point} (G : Good C L p) (skipped : ℕ → Bool) (point : ℕ → Point)
    (n : ℕ) (range : (i : ℕ) → i < n → InRange (point i)) where
  abbrev v₁ : Extended
  v₁ = convexity room C p L

  abbrev s : Filling
  s = fill_from room p skipped point n v₁

  abbrev r : Completing
  r = complete_mesh room C L p skipped point n

  -- THE SECOND STAGE ADDS NOTHING
  pub second-idle : s.full ≡ false → convex_after room s
      ≡ record { counts = s.counts; links = s.links; faces = 0; flips = 0; full = false }
  unfolding fill_from convex_after
  second-idle = go v₁.full refl
    where
      filled : Filling
      filled = fill_after room v₁.counts v₁.links p skipped point n

      go : (b : Bool) → v₁.full ≡ b
          → let t = cond b (record { counts = v₁.counts; links = v₁.links; positions = p; answered = n; full = true }) filled in
          t.full ≡ false
          → cond t.full (record { counts = t.counts; links = t.links; faces = 0; flips = 0; full = true })
          (convexity room t.counts t.positions t.links)
          ≡ record { counts = t.counts; links = t.links; faces = 0; flips = 0; full = false }
      go true q z = absurd (false≢true (sym z))
      go false q z =
          ap (λ (b : Bool). cond b (record { counts = filled.counts; links = filled.links; faces = 0; flips = 0; full = true }) (convexity room filled.counts filled.positions filled.links)) z
          ∙ convexity-still room (fill-good room (convexity-good room C p L G) skipped point range n (omega arith))
          (fill-corners room (convexity-good room C p L G) skipped point range (convexity-convex room C p L G q) n (omega arith) z)

  idle : (b : Bool) → s.full ≡ b → ((convex_after room s).faces ≡ 0) × ((convex_after room s).flips ≡ 0)
  unfolding convex_after
  idle true q = let k = ap (λ (b : Bool). cond b (record { counts = s.counts; links = s.links; faces = 0; flips = 0; full = true }) (convexity room s.counts s.positions s.links)) q in
      (ap (λ (w : Extended). w.faces) k, ap (λ (w : Extended). w.flips) k)
  idle false q = (ap (λ (w : Extended). w.faces) (second-idle q), ap (λ (w : Extended). w.flips) (second-idle q))

  -- so the faces and flips of convexity are those of the first stage, a refused flip too
  pub complete-faces : r.mesh.faces ≡ v₁.faces
  unfolding complete_mesh
  complete-faces = ap (λ (k : ℕ). v₁.faces + k) (idle s.full refl).0 ∙ add-zero v₁.faces

  pub complete-convexflips : r.mesh.convexflips ≡ v₁.flips
  unfolding complete_mesh
  complete-convexflips = ap (λ (k : ℕ). v₁.flips + k) (idle s.full refl).1 ∙ add-zero v₁.flips

  -- and they have room in 64 bits
  pub complete-fits : v₁.counts.faces ≤ 2 ^ 25 → r.mesh.convexflips + 1 < 2 ^ 64
  complete-fits k = rw complete-convexflips (within-room (convexity-bound room C p L G) (convexity-good room C p L G).wf k)
