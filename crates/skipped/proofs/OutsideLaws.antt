-- Laws of specs/Outside.antt.
use Rattle.std.specs.Prelude.{Bool, ◌||◌, ◌≡◌, ℤ, pos, ◌<ℤ◌}
use Rattle.std.proofs.Math.Bool.{true, false, not}
use Rattle.std.proofs.lemmas.Bool.{false≢true}
use Rattle.std.proofs.Common.{sym, ◌∙◌, ap, ap₂, subst, arith}
use Prim.Native.Nat.{ℕ, suc, ◌+◌, ◌*◌, ◌<◌}
use Rattle.std.proofs.Math.Dec.{T}
use Rattle.std.specs.Int.Signed.{lt_z_yes}
use Rattle.ring.specs.declared.Side.{Side}
use Rattle.ring.specs.declared.Side.TheVariants.{Left, Right}
use Rattle.apply.specs.Apply.{Walking, first_face, face_edge}
use Rattle.ring.specs.Chain.{beside, sees_edge}
use Rattle.corner.specs.Corner.{Extended}
use Rattle.corner.specs.CornerLaws.{LeftCorner, CornerClosed, closed-good, closed-boundary, closed-length, Closings, none, then, closings-join}
use Rattle.math.specs.declared.Point.{Point}
use Rattle.math.specs.Determinant.{InRange, orient2d}
use Rattle.math.proofs.Plane.{orient2d-next}
use Rattle.mesh.specs.declared.Counts.{Counts}
use Rattle.mesh.specs.Mesh.{Links, In, to}
use Rattle.mesh.specs.Operations.{create_single_face_between_edge_and_next, with_face, create_new_face_adjacent_to_edge, with_vertex}
use Rattle.mesh.specs.Area.{boundary_length}
use Rattle.mesh.proofs.BoundaryLaws.{boundary-most}
use Rattle.mesh.specs.Frame.{SameBoundary}
use Rattle.mesh.specs.Good.{Good}
use Rattle.mesh.proofs.GoodLaws.{single-face-good, new-face-good}
use Rattle.mesh.proofs.LeftLaws.{corner-four}
use Rattle.mesh.proofs.NewFaceLaws.{new-face-frame}
use Rattle.mesh.proofs.SingleFaceLaws.{single-face-frame}
use Rattle.mesh.proofs.TriangleLaws.{outer, p-e, p-n, e-q, n-q}
use Rattle.sums.proofs.UntilLaws.{Falls, until-ends, until-keeps, until-ind}
use Rattle.skipped.specs.Insert.{legalize_one, unflipped, cover_edge, outside_ends, outside_turn, outside_walk, insert_outside}
use Rattle.skipped.specs.LegalizeVertex.{Legalized}
use Rattle.skipped.proofs.LegalizeVertexLaws.{legalize-one, legalized-good, legalized-boundary}
use Rattle.skipped.specs.Outside.{Tip}

-- ---- a corner that is closed: the face, and one edge legalized
module _ (room : ℕ) (p : ℕ → Point) (m : Extended) (G : Good m.counts m.links p) {e : ℕ} (l : In m.counts e)
    (o : m.links.face e ≡ 0) (h : LeftCorner m.links p e) where
  pub cover-closes : {d : ℕ} → In m.counts d → CornerClosed p m (cover_edge room p m e d) e
  unfolding cover_edge
  cover-closes {d} k = record {
    edge = l;
    outer = o;
    left = h;
    made = A.made;
    run = A.run;
    counts = A.counts;
    faces = A.faces;
    flips = A.flips;
  }
    where
      A : Legalized p
          (record {
            counts = with_face m.counts;
            links = create_single_face_between_edge_and_next m.links m.counts e;
            faces = suc m.faces;
            flips = m.flips;
            full = false;
          }) (cover_edge room p m e d)
      A = legalize-one room p _ (single-face-good G l o h) (let j = k in omega arith)

-- flips leave it
pub tip_same : {w : ℕ} {C : Counts} {L L' : Links} {l r : ℕ} → SameBoundary C L L' → Tip w C L l r → Tip w C L' l r
tip_same S T = let a = S.keeps T.in-l T.outer-l in let b = S.keeps T.in-r T.outer-r in record {
  in-l = T.in-l;
  in-r = T.in-r;
  outer-l = a.face ∙ T.outer-l;
  outer-r = b.face ∙ T.outer-r;
  next-l = a.next ∙ T.next-l;
  prev-r = b.prev ∙ T.prev-r;
  to-l = a.end ∙ T.to-l;
  origin-r = b.origin ∙ T.origin-r;
}

module _ (room : ℕ) (p : ℕ → Point) {w : ℕ} {v : Point} (here : p w ≡ v) where
  module _ (m : Extended) (G : Good m.counts m.links p) {l r : ℕ} (X : Tip w m.counts m.links l r) where
    abbrev C : Counts
    C = m.counts

    abbrev L : Links
    L = m.links

    -- what is known after the new face is known after the flips
    after : {m' : Extended} {e l' r' : ℕ} → CornerClosed p m m' e → Tip w (with_face C) (create_single_face_between_edge_and_next L C e) l' r'
        → Tip w m'.counts m'.links l' r'
    after {m'} {e} {l'} {r'} S Y = subst (λ (K : Counts). Tip w K m'.links l' r') (sym S.counts) (tip_same (closed-boundary G S) Y)

    -- ---- to the left: the edge before l
    module _ (t : T (sees_edge L p v (L.prev l))) where
      abbrev d : ℕ
      d = L.prev l

      in-d : In C d
      in-d = G.wf.ranges.prev< X.in-l

      back : L.next d ≡ l
      back = G.wf.links.next-prev X.in-l

      outer-d : L.face d ≡ 0
      outer-d = let f = G.wf.links.face-next in-d in let o = X.outer-l in let b = back in cc

      left-corner : LeftCorner L p d
      left-corner = subst (λ (x : Point). pos 0 <ℤ orient2d (p (L.origin d)) (p (to L d)) x)
          (sym (ap (λ (x : ℕ). p (to L x)) back ∙ ap p X.to-l ∙ here)) (lt_z_yes t)

      pub left-closes : CornerClosed p m (cover_edge room p m d d) d
      left-closes = cover-closes room p m G in-d outer-d left-corner in-d

      pub left-tip : Tip w (cover_edge room p m d d).counts (cover_edge room p m d d).links (2 * C.edges + 1) r
      left-tip =
          let W = G.wf in
          let A = outer W in-d outer-d in
          let F = single-face-frame W in-d outer-d (corner-four W G.turning in-d outer-d left-corner) in
          let b = back in let n = X.next-l in let j = X.in-r in
          let z = F.ends X.in-r in
          after left-closes (record {
            in-l = omega arith;
            in-r = omega arith;
            outer-l = F.outer-o;
            outer-r = F.outer-rest X.in-r X.outer-r (λ k. e-q W A (cc)) (λ k. n-q W A (cc));
            next-l = cc F.next-o;
            prev-r = cc F.prev-q;
            to-l = cc (F.end-o, X.to-l);
            origin-r = z.0 ∙ X.origin-r;
          })

    -- ---- to the right: the edge after r
    module _ (t : T (sees_edge L p v (L.next r))) where
      in-n : In C (L.next r)
      in-n = G.wf.ranges.next< X.in-r

      right-corner : LeftCorner L p r
      right-corner =
          subst (λ (z : ℤ). pos 0 <ℤ z)
          (sym (orient2d-next v (p (L.origin (L.next r))) (p (to L (L.next r)))) ∙ ap₂ (λ (x y : Point). orient2d x y (p (to L (L.next r))))
          (sym (ap p X.origin-r ∙ here)) (ap p (G.wf.links.origin-next X.in-r))) (lt_z_yes t)

      pub right-closes : CornerClosed p m (cover_edge room p m r (L.next r)) r
      right-closes = cover-closes room p m G X.in-r X.outer-r right-corner in-n

      pub right-tip : Tip w (cover_edge room p m r (L.next r)).counts (cover_edge room p m r (L.next r)).links l (2 * C.edges + 1)
      right-tip =
          let W = G.wf in
          let A = outer W X.in-r X.outer-r in
          let F = single-face-frame W X.in-r X.outer-r (corner-four W G.turning X.in-r X.outer-r right-corner) in
          let b = X.prev-r in let j = X.in-l in
          let z = F.ends X.in-l in
          after right-closes (record {
            in-l = omega arith;
            in-r = omega arith;
            outer-l = F.outer-rest X.in-l X.outer-l (λ k. p-e W A (cc)) (λ k. p-n W A (cc));
            outer-r = F.outer-o;
            next-l = cc F.next-p;
            prev-r = cc F.prev-o;
            to-l = z.1 ∙ X.to-l;
            origin-r = F.origin-o ∙ X.origin-r;
          })

  -- ---- a loop: c is its current edge, x the other of the two
  abbrev pub TipOn : Side → Counts → Links → ℕ → ℕ → Type 0
  TipOn Left C L c x = Tip w C L c x
  TipOn Right C L c x = Tip w C L x c

  pub record Standing (side : Side) (x : ℕ) (s : Walking) : Type 0 where
    pub good : Good s.mesh.counts s.mesh.links p
    pub tip : TipOn side s.mesh.counts s.mesh.links s.current x

  -- where a loop goes on, the edge beside the current one is seen
  pub going : (side : Side) (s : Walking) → outside_ends side p v s ≡ false
      → T (sees_edge s.mesh.links p v (beside side s.mesh.links s.current))
  unfolding outside_ends
  going side s e = both s.mesh.full (sees_edge s.mesh.links p v (beside side s.mesh.links s.current)) e
    where
      both : (a b : Bool) → (a || not b) ≡ false → T b
      both true b q = absurd (false≢true (sym q))
      both false true q = tt
      both false false q = absurd (false≢true (sym q))

  pub turn-closes : (side : Side) {x : ℕ} (s : Walking) → Standing side x s → outside_ends side p v s ≡ false
      → CornerClosed p s.mesh (outside_turn side room p s).mesh
      (face_edge side s.current (beside side s.mesh.links s.current))
  unfolding outside_turn face_edge
  turn-closes Left s I e = left-closes s.mesh I.good I.tip (going Left s e)
  turn-closes Right s I e = right-closes s.mesh I.good I.tip (going Right s e)

  turn-tip : (side : Side) {x : ℕ} (s : Walking) → Standing side x s → outside_ends side p v s ≡ false
      → TipOn side (outside_turn side room p s).mesh.counts (outside_turn side room p s).mesh.links
      (outside_turn side room p s).current x
  unfolding outside_turn face_edge
  turn-tip Left s I e = left-tip s.mesh I.good I.tip (going Left s e)
  turn-tip Right s I e = right-tip s.mesh I.good I.tip (going Right s e)

  -- each turn makes the boundary shorter by one
  pub outside-falls : (side : Side) (x : ℕ)
      → Falls (outside_ends side p v) (outside_turn side room p) (Standing side x) (λ s. boundary_length s.mesh.counts s.mesh.links)
  outside-falls side x = record {
    keeps = λ s I e. record { good = closed-good I.good (turn-closes side s I e); tip = turn-tip side s I e };
    less = λ s I e. let k = closed-length I.good (turn-closes side s I e) in omega arith;
  }

  module _ (side : Side) {x : ℕ} (s : Walking) (I : Standing side x s) where
    enough : boundary_length s.mesh.counts s.mesh.links < 2 * s.mesh.counts.edges + 1
    enough = let k = boundary-most I.good.wf in omega arith

    pub outside-closings : Closings p s.mesh (outside_walk side room p v s).mesh
    unfolding outside_walk
    outside-closings =
        until-ind (outside_ends side p v) (outside_turn side room p) (outside-falls side x) (λ s r. Closings p s.mesh r.mesh) (λ s J e. none)
        (λ s r J e q. closings-join (then none _ (turn-closes side s J e)) q) (2 * s.mesh.counts.edges + 1) s I enough

    pub outside-standing : Standing side x (outside_walk side room p v s)
    unfolding outside_walk
    outside-standing = until-keeps (outside_ends side p v) (outside_turn side room p) (outside-falls side x) (2 * s.mesh.counts.edges + 1) s I

    -- the loop has ended: a flip was refused, or the edge beside is not seen
    pub outside-ends : outside_ends side p v (outside_walk side room p v s) ≡ true
    unfolding outside_walk
    outside-ends = until-ends (outside_ends side p v) (outside_turn side room p) (outside-falls side x) (2 * s.mesh.counts.edges + 1) s I enough

-- ---- all of it: p has the new vertex's position v
module _ (room : ℕ) {C : Counts} {L : Links} {p₀ p : ℕ → Point} {v : Point} {e : ℕ} (G : Good C L p₀) (l : In C e) (o : L.face e ≡ 0)
    (seen : pos 0 <ℤ orient2d (p₀ (L.origin e)) (p₀ (to L e)) v)
    (same : (u : ℕ) → u < C.vertices → p u ≡ p₀ u) (here : p C.vertices ≡ v) (range : InRange v) where
  abbrev K : Links
  K = create_new_face_adjacent_to_edge L C e

  pub new-good : Good (with_vertex C) K p
  new-good = new-face-good G l o same (rw here range) (rw here seen)

  pub first-legalized : Legalized p (unflipped (with_vertex C) K 1) (first_face room p C L e)
  unfolding first_face legalize_one
  first-legalized = legalize-one room p (unflipped (with_vertex C) K 1) new-good (let k = l in omega arith)

  pub first_good : Good (first_face room p C L e).counts (first_face room p C L e).links p
  first_good = legalized-good new-good first-legalized

  first-tip : Tip C.vertices (first_face room p C L e).counts (first_face room p C L e).links (2 * C.edges + 2 + 1) (2 * C.edges + 1)
  first-tip =
      let F = new-face-frame G.wf l o in
      subst (λ (D : Counts). Tip C.vertices D (first_face room p C L e).links (2 * C.edges + 2 + 1) (2 * C.edges + 1)) (sym first-legalized.counts)
      (tip_same (legalized-boundary new-good first-legalized) (record {
        in-l = omega arith;
        in-r = omega arith;
        outer-l = F.outer-b';
        outer-r = F.outer-a';
        next-l = F.next-b';
        prev-r = F.prev-a';
        to-l = F.end-b';
        origin-r = F.origin-a';
      }))

  abbrev s₀ : Walking
  s₀ = record { mesh = first_face room p C L e; current = 2 * C.edges + 2 + 1 }

  abbrev s₁ : Walking
  s₁ = outside_walk Left room p v s₀

  abbrev s₂ : Walking
  s₂ = record { mesh = s₁.mesh; current = 2 * C.edges + 1 }

  pub left-start : Standing room p here Left (2 * C.edges + 1) s₀
  left-start = record { good = first_good; tip = first-tip }

  left_end : Standing room p here Left (2 * C.edges + 1) s₁
  left_end = outside-standing room p here Left s₀ left-start

  pub right-start : Standing room p here Right s₁.current s₂
  right-start = record { good = left_end.good; tip = left_end.tip }

  pub outside-covers : Closings p (first_face room p C L e) (insert_outside room p C L v e)
  unfolding insert_outside
  outside-covers = closings-join (outside-closings room p here Left s₀ left-start) (outside-closings room p here Right s₂ right-start)

  pub outside-good : Good (insert_outside room p C L v e).counts (insert_outside room p C L v e).links p
  unfolding insert_outside
  outside-good = (outside-standing room p here Right s₂ right-start).good
