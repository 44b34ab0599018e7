-- Laws of specs/Corners.antt.
use Rattle.std.specs.Prelude.{◌≢◌, ◌⊎◌, ◌≡◌, refl, ℕ, ◌+◌, ◌*◌, ◌≤◌, T, ℤ, pos, ◌<ℤ◌, ◌≤ℤ◌}
use Rattle.std.proofs.Common.{inl, inr, sym, ◌∙◌, ap, ap₂, subst, arith}
use Rattle.std.specs.Int.Signed.{lt_z_yes}
use Rattle.corner.specs.Corner.{Extended}
use Rattle.corner.specs.CornerLaws.{CornerClosed, closed-boundary}
use Rattle.math.specs.declared.Point.{Point}
use Rattle.math.specs.declared.Vector.{Vector}
use Rattle.math.specs.Determinant.{orient2d}
use Rattle.math.specs.Vector.{difference}
use Rattle.mesh.specs.declared.Counts.{Counts}
use Rattle.mesh.specs.Mesh.{Links, In, to}
use Rattle.mesh.specs.Operations.{create_single_face_between_edge_and_next, with_face}
use Rattle.mesh.specs.Area.{at_corners}
use Rattle.mesh.specs.Frame.{SameBoundary}
use Rattle.mesh.specs.Good.{Good}
use Rattle.mesh.proofs.GoodLaws.{single-face-good}
use Rattle.mesh.proofs.LeftLaws.{corner-four}
use Rattle.mesh.specs.SingleFace.{SingleFaceFrame}
use Rattle.mesh.proofs.SingleFaceLaws.{single-face-frame}
use Rattle.mesh.specs.Triangle.{Outer}
use Rattle.mesh.proofs.TriangleLaws.{outer, p-e, p-n, e-n, e-q, n-q}
use Rattle.mesh.specs.Wf.{Wf}
use Rattle.ring.specs.Chain.{sees_edge}
use Rattle.skipped.specs.Insert.{cover_edge}
use Rattle.skipped.specs.Outside.{Tip}
use Rattle.skipped.proofs.OutsideLaws.{left-closes, right-closes}
use Rattle.skipped.specs.Rise.{RiseLeft, RiseRight}
use Rattle.skipped.proofs.RiseLaws.{rise-left, rise-right}
use Rattle.skipped.specs.Corners.{Right, Rest, LeftChain, RightChain}

-- flips leave the boundary's corners
pub corner-same : {C : Counts} {K M : Links} (p : ℕ → Point) → Wf C K → SameBoundary C K M → {x : ℕ} → In C x → K.face x ≡ 0
    → at_corners orient2d M p x ≡ at_corners orient2d K p x
corner-same {C} {K} {M} p W S {x} l o =
    let n = W.ranges.next< l in let on = W.links.face-next l ∙ o in
    let k₁ = S.keeps l o in let k₂ = S.keeps n on in let k₃ = S.keeps (W.ranges.next< n) (W.links.face-next n ∙ on) in
    let a : M.origin (M.next x) ≡ K.origin (K.next x) = cc in
    let b : M.origin (M.next (M.next x)) ≡ K.origin (K.next (K.next x)) = cc in
    rw (k₁.origin, a, b) refl

-- an operation leaves that of a half-edge whose next it leaves, where old half-edges keep their ends
pub corner-kept : {C C' : Counts} {L K : Links} (p : ℕ → Point) → Wf C L → Wf C' K → C.edges ≤ C'.edges
    → ((y : ℕ) → In C y → (K.origin y ≡ L.origin y) × (to K y ≡ to L y)) → {x : ℕ} → In C x → K.next x ≡ L.next x
    → at_corners orient2d K p x ≡ at_corners orient2d L p x
corner-kept {C} {C'} {L} {K} p W W' m ends {x} l q =
    let y = L.next x in
    let n = W.ranges.next< l in
    let i : In C' y = omega arith in
    let e₁ = ends x l in let e₂ = ends y n in
    let a : K.origin (K.next x) ≡ L.origin y = ap K.origin q ∙ e₂.0 in
    let b : K.origin (K.next (K.next x)) ≡ L.origin (L.next y) = ap (λ (z : ℕ). K.origin (K.next z)) q ∙ W'.links.origin-next i ∙ e₂.1 ∙ sym (W.links.origin-next n) in
    rw (e₁.0, a, b) refl

-- ---- flips leave all that
module _ (p : ℕ → Point) (v : Point) {C : Counts} {K M : Links} (W : Wf C K) (S : SameBoundary C K M) {l r : ℕ}
    (il : In C l) (ol : K.face l ≡ 0) (ir : In C r) (or : K.face r ≡ 0) where
  ig : In C (K.prev l)
  ig = W.ranges.prev< il

  og : K.face (K.prev l) ≡ 0
  og = sym (W.links.face-next ig) ∙ ap K.face (W.links.next-prev il) ∙ ol

  same-prev : M.origin (M.prev l) ≡ K.origin (K.prev l)
  same-prev = ap M.origin (S.keeps il ol).prev ∙ (S.keeps ig og).origin

  same_next : to M (M.next r) ≡ to K (K.next r)
  same_next = ap (to M) (S.keeps ir or).next ∙ (S.keeps (W.ranges.next< ir) (W.links.face-next ir ∙ or)).end

  rest-same : Rest p C K l r → Rest p C M l r
  rest-same Y = record {
    rest = λ {x} i o a b c.
        subst (λ (z : ℤ). z ≤ℤ pos 0) (sym (corner-same p W S i (S.was i o))) (Y.rest i (S.was i o) (λ q. a (q ∙ sym (S.keeps il ol).prev)) b c);
  }

  pub left-same : {A B R : Point} {e₁ e₂ : Vector} → LeftChain p v C K l r A B R e₁ e₂ → LeftChain p v C M l r A B R e₁ e₂
  left-same {A} {B} {R} {e₁} {e₂} Y = let a = (S.keeps il ol).origin in let c = (S.keeps ir or).end in record {
    rest = rest-same Y.rest;
    corner-l = subst (λ (z : ℤ). z ≤ℤ pos 0) (ap₂ (λ (x y : ℕ). orient2d (p x) (p y) B) (sym same-prev) (sym a)) Y.corner-l;
    seen-l = subst (λ (x : ℕ). pos 0 <ℤ orient2d (p x) B v) (sym a) Y.seen-l;
    rise₁ = subst (λ (x : ℕ). RiseLeft v (p x) B e₁) (sym a) Y.rise₁;
    rise₂ = subst (λ (x : ℕ). RiseLeft v (p x) B e₂) (sym a) Y.rise₂;
    corner-r = subst (λ (z : ℤ). z ≤ℤ pos 0) (ap₂ (λ (x y : ℕ). orient2d A (p x) (p y)) (sym c) (sym same_next)) Y.corner-r;
    right_end = ap p c ∙ Y.right_end;
  }

  pub right-same : {A U : Point} → RightChain p v C K l r A U → RightChain p v C M l r A U
  right-same {A} {U} Y = let a = (S.keeps il ol).origin in let c = (S.keeps ir or).end in record {
    rest = rest-same Y.rest;
    seen_r = subst (λ (x : ℕ). pos 0 <ℤ orient2d A (p x) v) (sym c) Y.seen_r;
    corner-r = subst (λ (z : ℤ). z ≤ℤ pos 0) (ap₂ (λ (x y : ℕ). orient2d A (p x) (p y)) (sym c) (sym same_next)) Y.corner-r;
    rise = subst (λ (x : ℕ). RiseRight v A (p x) (difference U v)) (sym c) Y.rise;
    corner-l = subst (λ (z : ℤ). z ≤ℤ pos 0) (ap₂ (λ (x y : ℕ). orient2d (p x) (p y) v) (sym same-prev) (sym a)) Y.corner-l;
    left_end = ap p a ∙ Y.left_end;
  }

-- ---- a turn
module _ (room : ℕ) (p : ℕ → Point) {w : ℕ} {v : Point} (here : p w ≡ v) (m : Extended) (G : Good m.counts m.links p) {l r : ℕ}
    (X : Tip w m.counts m.links l r) where
  abbrev C : Counts
  C = m.counts

  abbrev L : Links
  L = m.links

  W : Wf C L
  W = G.wf

  -- to the left
  module _ (t : T (sees_edge L p v (L.prev l))) {A B R : Point} {e₁ e₂ : Vector} (Y : LeftChain p v C L l r A B R e₁ e₂) where
    abbrev d : ℕ
    d = L.prev l

    abbrev K : Links
    K = create_single_face_between_edge_and_next L C d

    S : CornerClosed p m (cover_edge room p m d d) d
    S = left-closes room p here m G X t

    four : L.prev d ≢ L.next (L.next d)
    four = corner-four W G.turning S.edge S.outer S.left

    F : SingleFaceFrame C (with_face C) L K (L.prev d) d (L.next d) (L.next (L.next d)) (2 * C.edges) (2 * C.edges + 1)
    F = single-face-frame W S.edge S.outer four

    O : Outer C L (L.prev d) d (L.next d) (L.next (L.next d))
    O = outer W S.edge S.outer

    W' : Wf (with_face C) K
    W' = (single-face-good G S.edge S.outer S.left).wf

    back : L.next d ≡ l
    back = W.links.next-prev X.in-l

    after : L.next (L.next d) ≡ r
    after = ap L.next back ∙ X.next-l

    -- v sees the edge from a to b, which is covered
    seen : pos 0 <ℤ orient2d (p (L.origin d)) (p (L.origin l)) v
    seen = subst (λ (x : ℕ). pos 0 <ℤ orient2d (p (L.origin d)) (p x) v) (O.to-e ∙ ap L.origin back) (lt_z_yes t)

    old-r : (r ≢ d) × (r ≢ L.next d) × (r ≢ L.prev d)
    old-r = let a = after in let b = back in (λ k. e-q W O (cc), λ k. n-q W O (cc), λ k. four (cc))

    -- the corner before d was one of the others
    before : orient2d (p (L.origin (L.prev d))) (p (L.origin d)) (p (L.origin l)) ≤ℤ pos 0
    before =
        let g = O.next-p in
        subst (λ (z : ℤ). z ≤ℤ pos 0) (ap₂ (λ (x y : ℕ). orient2d (p (L.origin (L.prev d))) (p (L.origin x)) (p (L.origin y))) g (ap L.next g ∙ back))
        (Y.rest.rest O.in_p O.face-p (p-e W O) (λ k. p-n W O (k ∙ sym back)) (λ k. old-r.2 (sym k)))

    left-new : LeftChain p v (with_face C) K (2 * C.edges + 1) r A (p (L.origin l)) R e₁ e₂
    left-new = let q = F.prev-o in let o = F.origin-o in let j = X.in-r in record {
      rest = record {
        rest = λ {x} i z a b c. go a b c (F.was i z);
      };
      corner-l =
          subst (λ (z : ℤ). z ≤ℤ pos 0) (ap₂ (λ (x y : ℕ). orient2d (p x) (p y) (p (L.origin l))) (sym (ap K.origin q ∙ (F.ends O.in_p).0)) (sym o)) before;
      seen-l = subst (λ (x : ℕ). pos 0 <ℤ orient2d (p x) (p (L.origin l)) v) (sym o) seen;
      rise₁ = subst (λ (x : ℕ). RiseLeft v (p x) (p (L.origin l)) e₁) (sym o) (rise-left seen Y.seen-l Y.corner-l Y.rise₁);
      rise₂ = subst (λ (x : ℕ). RiseLeft v (p x) (p (L.origin l)) e₂) (sym o) (rise-left seen Y.seen-l Y.corner-l Y.rise₂);
      corner-r =
          subst (λ (z : ℤ). z ≤ℤ pos 0)
          (ap₂ (λ (x y : ℕ). orient2d A (p x) (p y)) (sym (F.ends X.in-r).1)
          (sym (ap (to K) (F.next-rest X.in-r old-r.2 old-r.1) ∙ (F.ends (W.ranges.next< X.in-r)).1))) Y.corner-r;
      right_end = ap p (F.ends X.in-r).1 ∙ Y.right_end;
    }
      where
        go : {x : ℕ} → x ≢ K.prev (2 * C.edges + 1) → x ≢ 2 * C.edges + 1 → x ≢ r
            → (x ≡ 2 * C.edges + 1) ⊎ (In C x × (L.face x ≡ 0) × (x ≢ d) × (x ≢ L.next d)) → Right K p x
        go a b c (inl q) = absurd (b q)
        go {x} a b c (inr (i, o, e, f)) =
            subst (λ (z : ℤ). z ≤ℤ pos 0)
            (sym (corner-kept p W W' (omega arith) (λ y k. F.ends k) i (F.next-rest i (λ k. a (k ∙ sym F.prev-o)) f)))
            (Y.rest.rest i o e (λ k. f (k ∙ sym back)) c)

    pub left-chain : LeftChain p v (cover_edge room p m d d).counts (cover_edge room p m d d).links
        (2 * C.edges + 1) r A (p (L.origin l)) R e₁ e₂
    left-chain =
        let j = X.in-r in
        subst (λ (D : Counts). LeftChain p v D (cover_edge room p m d d).links (2 * C.edges + 1) r A (p (L.origin l)) R e₁ e₂) (sym S.counts)
        (left-same p v W' (closed-boundary G S) (omega arith) F.outer-o (omega arith) (F.outer-rest X.in-r X.outer-r old-r.0 old-r.1) left-new)

  -- to the right
  module _ (t : T (sees_edge L p v (L.next r))) {A U : Point} (Y : RightChain p v C L l r A U) where
    abbrev n : ℕ
    n = L.next r

    abbrev N : Links
    N = create_single_face_between_edge_and_next L C r

    S₂ : CornerClosed p m (cover_edge room p m r n) r
    S₂ = right-closes room p here m G X t

    four₂ : L.prev r ≢ L.next n
    four₂ = corner-four W G.turning S₂.edge S₂.outer S₂.left

    F₂ : SingleFaceFrame C (with_face C) L N (L.prev r) r n (L.next n) (2 * C.edges) (2 * C.edges + 1)
    F₂ = single-face-frame W S₂.edge S₂.outer four₂

    O₂ : Outer C L (L.prev r) r n (L.next n)
    O₂ = outer W S₂.edge S₂.outer

    W₂ : Wf (with_face C) N
    W₂ = (single-face-good G S₂.edge S₂.outer S₂.left).wf

    seen₂ : pos 0 <ℤ orient2d (p (to L r)) (p (to L n)) v
    seen₂ = subst (λ (x : ℕ). pos 0 <ℤ orient2d (p x) (p (to L n)) v) (sym O₂.to-e) (lt_z_yes t)

    old-l : (l ≢ r) × (l ≢ n) × (l ≢ L.next n)
    old-l = let b = X.prev-r in (λ k. p-e W O₂ (cc), λ k. p-n W O₂ (cc), λ k. four₂ (cc))

    kept-prev : N.prev l ≡ L.prev l
    kept-prev = F₂.prev-rest X.in-l old-l.0 old-l.2

    -- the corner after n was one of the others
    behind : orient2d (p (to L r)) (p (to L n)) (p (to L (L.next n))) ≤ℤ pos 0
    behind =
        subst (λ (z : ℤ). z ≤ℤ pos 0)
        (ap (λ (x : ℕ). orient2d (p x) (p (L.origin (L.next n))) (p (L.origin (L.next (L.next n))))) (sym O₂.to-e)
        ∙ ap₂ (λ (x y : ℕ). orient2d (p (to L r)) (p x) (p y)) (sym O₂.to-n) (W.links.origin-next O₂.in-q))
        (Y.rest.rest O₂.in-n O₂.face-n (λ k. old-l.2 (sym (ap L.next k ∙ W.links.next-prev X.in-l))) (λ k. old-l.1 (sym k)) (λ k. e-n W O₂ (sym k)))

    right_new : RightChain p v (with_face C) N l (2 * C.edges + 1) (p (to L r)) U
    right_new = let e = F₂.end-o in record {
      rest = record { rest = λ {x} i z a b c. go a b c (F₂.was i z) };
      seen_r = subst (λ (x : ℕ). pos 0 <ℤ orient2d (p (to L r)) (p x) v) (sym e) seen₂;
      corner-r =
          subst (λ (z : ℤ). z ≤ℤ pos 0)
          (ap₂ (λ (x y : ℕ). orient2d (p (to L r)) (p x) (p y)) (sym e) (sym (ap (to N) F₂.next-o ∙ (F₂.ends O₂.in-q).1))) behind;
      rise = subst (λ (x : ℕ). RiseRight v (p (to L r)) (p x) (difference U v)) (sym e) (rise-right Y.seen_r seen₂ Y.corner-r Y.rise);
      corner-l =
          subst (λ (z : ℤ). z ≤ℤ pos 0)
          (ap₂ (λ (x y : ℕ). orient2d (p x) (p y) v) (sym (ap N.origin kept-prev ∙ (F₂.ends (W.ranges.prev< X.in-l)).0)) (sym (F₂.ends X.in-l).0)) Y.corner-l;
      left_end = ap p (F₂.ends X.in-l).0 ∙ Y.left_end;
    }
      where
        go : {x : ℕ} → x ≢ N.prev l → x ≢ l → x ≢ 2 * C.edges + 1
            → (x ≡ 2 * C.edges + 1) ⊎ (In C x × (L.face x ≡ 0) × (x ≢ r) × (x ≢ n)) → Right N p x
        go a b c (inl q) = absurd (c q)
        go {x} a b c (inr (i, o, e, f)) =
            subst (λ (z : ℤ). z ≤ℤ pos 0)
            (sym (corner-kept p W W₂ (omega arith) (λ y k. F₂.ends k) i (F₂.next-rest i (λ k. b (k ∙ X.prev-r)) f)))
            (Y.rest.rest i o (λ k. a (k ∙ sym kept-prev)) b e)

    pub right-chain : RightChain p v (cover_edge room p m r n).counts (cover_edge room p m r n).links l (2 * C.edges + 1) (p (to L r)) U
    right-chain =
        let j = X.in-l in
        subst (λ (D : Counts). RightChain p v D (cover_edge room p m r n).links l (2 * C.edges + 1) (p (to L r)) U) (sym S₂.counts)
        (right-same p v W₂ (closed-boundary G S₂) (omega arith) (F₂.outer-rest X.in-l X.outer-l old-l.0 old-l.1) (omega arith) F₂.outer-o right_new)
