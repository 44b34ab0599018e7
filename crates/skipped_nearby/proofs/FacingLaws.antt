-- While a point outside is joined to the boundary, each turn keeps what faces it, and how often the boundary's directions
-- leave the half-plane left of the direction away. Assumes nothing.
use Rattle.std.specs.Prelude.{false, ◌≢◌, ◌⊎◌, ◌≡◌, refl, ℕ, ◌+◌, ◌*◌, T, ℤ, ◌+ℤ◌, ◌<ℤ◌, ◌≤ℤ◌, [], ◌∷◌}
use Rattle.std.proofs.Common.{inl, inr, ◌∙◌, ap, subst, arith}
use Rattle.std.proofs.Math.Path.{sym, ap₂, subst₂}
use Rattle.std.proofs.Math.IntN.{pos}
use Rattle.std.specs.Int.Signed.{lt_z_yes, clash_ℤ}
use Rattle.algebra.proofs.Order.{lt-le}
use Rattle.algebra.specs.Ring.{◌⊕◌}
use Rattle.algebra.proofs.RingLaws.{#◌, v0, v1}
use Rattle.algebra.proofs.Sign.{◌+⁺◌, weak, lt_in, lt_by}
use Rattle.corner.specs.Corner.{Extended}
use Rattle.corner.specs.CornerLaws.{CornerClosed, closed-good, closed-boundary}
use Rattle.math.specs.declared.Point.{Point}
use Rattle.math.specs.declared.Vector.{Vector}
use Rattle.math.specs.Determinant.{orient2d}
use Rattle.math.specs.Vector.{difference, cross_of}
use Rattle.mesh.specs.declared.Counts.{Counts}
use Rattle.mesh.specs.Mesh.{Links, In, to}
use Rattle.mesh.specs.Operations.{create_single_face_between_edge_and_next, with_face}
use Rattle.mesh.specs.Frame.{SameBoundary}
use Rattle.mesh.specs.Good.{Good}
use Rattle.mesh.proofs.GoodLaws.{single-face-good}
use Rattle.mesh.proofs.LeftLaws.{corner-four}
use Rattle.mesh.specs.SingleFace.{SingleFaceFrame}
use Rattle.mesh.proofs.SingleFaceLaws.{single-face-frame}
use Rattle.mesh.specs.Triangle.{Outer}
use Rattle.mesh.proofs.TriangleLaws.{outer, p-e, p-n, e-n, e-q, n-q}
use Rattle.mesh.specs.Wf.{Wf}
use Rattle.outline.specs.Outline.{direction}
use Rattle.outline.specs.HalfPlane.{left}
use Rattle.outline.proofs.HalfPlaneLaws.{RightTurn, left→}
use Rattle.outline.proofs.VectorLaws.{cross-step}
use Rattle.ring.specs.Chain.{sees_edge}
use Rattle.nearby.proofs.KeptLaws.{direction-same, next-same, leaves-same}
use Rattle.nearby.specs.Leaves.{leaves_along}
use Rattle.nearby.proofs.LeavesLaws.{single-face-leaves}
use Rattle.skipped.specs.Insert.{cover_edge}
use Rattle.skipped.specs.Outside.{Tip}
use Rattle.skipped.proofs.OutsideLaws.{left-closes, right-closes}
use Rattle.sums.proofs.BitLaws.{is_false}
use Rattle.skipped_nearby.specs.Away.{away, Behind, Facing}
use Rattle.skipped_nearby.proofs.AwayLaws.{seen-away}

-- what goes to the right is not left
pub fails : (d u : Vector) → cross_of d u <ℤ pos 0 → left d u ≡ false
fails d u h = is_false (left d u) (λ t. clash_ℤ (left→ d u t) (lt-le h))

sum-right : {s t z : ℤ} → z ≡ s +ℤ t → s <ℤ pos 0 → t <ℤ pos 0 → z <ℤ pos 0
sum-right {s} {t} q h k = let ρ = s ∷ t ∷ [] in
    subst (λ (y : ℤ). y <ℤ pos 0) (sym q) (lt_by (lt_in ρ v0 (# 0) h +⁺ weak (lt_in ρ v1 (# 0) k)) (v0 ⊕ v1) (# 0) refl)

-- ---- flips leave it
module _ (p : ℕ → Point) {C : Counts} {K M : Links} (W : Wf C K) (W' : Wf C M) (S : SameBoundary C K M) {l r : ℕ}
    (il : In C l) (ol : K.face l ≡ 0) (ir : In C r) (or : K.face r ≡ 0) where
  same-direction : {x : ℕ} → In C x → K.face x ≡ 0 → direction M p x ≡ direction K p x
  same-direction = direction-same W W' S (λ x i z. i) {p = p} {p' = p} (λ u h. refl)

  pub facing-same : {v a b : Point} → Facing p v a b C K l r → Facing p v a b C M l r
  facing-same {v} {a} {b} Y = record {
    rest = λ {x} i z e f g. let o = S.was i z in
        subst₂ (λ (u w : Vector). RightTurn u w) (sym (same-direction i o))
        (sym (next-same W W' S (λ x i z. i) {p = p} {p' = p} (λ u h. refl) i o))
        (Y.rest i o (λ q. e (q ∙ sym (S.keeps il ol).prev)) f g);
    beyond = λ {x} i z f g. let o = S.was i z in let k = S.keeps i o in let B = Y.beyond i o f g in record {
      first = subst₂ (λ (s t : ℕ). orient2d (p s) (p t) a ≤ℤ pos 0) (sym k.origin) (sym k.end) B.first;
      second = subst₂ (λ (s t : ℕ). orient2d (p s) (p t) b ≤ℤ pos 0) (sym k.origin) (sym k.end) B.second;
    };
    at-l = subst (λ (u : Vector). cross_of (away a b v) u <ℤ pos 0) (sym (same-direction il ol)) Y.at-l;
    at-r = subst (λ (u : Vector). cross_of (away a b v) u <ℤ pos 0) (sym (same-direction ir or)) Y.at-r;
  }

-- ---- a corner is closed between e and the next, both to the right of d
module _ {p : ℕ → Point} {m m' : Extended} {e : ℕ} (G : Good m.counts m.links p) (S : CornerClosed p m m' e) where
  abbrev C : Counts
  C = m.counts

  abbrev L : Links
  L = m.links

  abbrev K : Links
  K = create_single_face_between_edge_and_next L C e

  abbrev o' : ℕ
  o' = 2 * C.edges + 1

  four : L.prev e ≢ L.next (L.next e)
  four = corner-four G.wf G.turning S.edge S.outer S.left

  pub frame : SingleFaceFrame C (with_face C) L K (L.prev e) e (L.next e) (L.next (L.next e)) (2 * C.edges) o'
  frame = single-face-frame G.wf S.edge S.outer four

  pub added : Good (with_face C) K p
  added = single-face-good G S.edge S.outer S.left

  pub kept : {x : ℕ} → In C x → direction K p x ≡ direction L p x
  unfolding direction
  kept j = let k = frame.ends j in ap₂ (λ (s t : ℕ). difference (p s) (p t)) k.1 k.0

  pub behind-kept : {a b : Point} {x : ℕ} → In C x → Behind p a b L x → Behind p a b K x
  behind-kept {a} {b} j B = let k = frame.ends j in record {
    first = subst₂ (λ (s t : ℕ). orient2d (p s) (p t) a ≤ℤ pos 0) (sym k.0) (sym k.1) B.first;
    second = subst₂ (λ (s t : ℕ). orient2d (p s) (p t) b ≤ℤ pos 0) (sym k.0) (sym k.1) B.second;
  }

  module _ (d : Vector) (he : cross_of d (direction L p e) <ℤ pos 0) (hn : cross_of d (direction L p (L.next e)) <ℤ pos 0) where
    -- the new edge is the two together
    pub new-right : cross_of d (direction K p o') <ℤ pos 0
    unfolding direction
    new-right = subst₂ (λ (s t : ℕ). cross_of d (difference (p s) (p t)) <ℤ pos 0) (sym frame.end-o) (sym frame.origin-o)
        (sum-right (cross-step (p (to L e)) (p (to L (L.next e))) (p (L.origin e)) d) he
        (subst (λ (s : ℕ). cross_of d (difference (p (to L (L.next e))) (p s)) <ℤ pos 0) (G.wf.links.origin-next S.edge) hn))

    pub closed-leaves : leaves_along (left d) m'.counts m'.links p ≡ leaves_along (left d) C L p
    closed-leaves =
        ap (λ (D : Counts). leaves_along (left d) D m'.links p) S.counts
        ∙ leaves-same added.wf (subst (λ (D : Counts). Wf D m'.links) S.counts (closed-good G S).wf) (closed-boundary G S) (λ x i z. i) {p = p} {p' = p} (λ u h. refl) (left d)
        ∙ single-face-leaves G.wf p (left d) S.edge S.outer (fails d (direction L p e) he) four added.wf
        (fails d (direction L p (L.next e)) hn) (fails d (direction K p o') new-right)

-- ---- a turn
module _ (room : ℕ) (p : ℕ → Point) {w : ℕ} {v : Point} (here : p w ≡ v) (m : Extended) (G : Good m.counts m.links p) {l r : ℕ}
    (X : Tip w m.counts m.links l r) {a b : Point} (Y : Facing p v a b m.counts m.links l r) where
  abbrev C₁ : Counts
  C₁ = m.counts

  abbrev L₁ : Links
  L₁ = m.links

  W : Wf C₁ L₁
  W = G.wf

  -- to the left
  module _ (t : T (sees_edge L₁ p v (L₁.prev l))) where
    abbrev g : ℕ
    g = L₁.prev l

    abbrev K₁ : Links
    K₁ = create_single_face_between_edge_and_next L₁ C₁ g

    S₁ : CornerClosed p m (cover_edge room p m g g) g
    S₁ = left-closes room p here m G X t

    F₁ : SingleFaceFrame C₁ (with_face C₁) L₁ K₁ (L₁.prev g) g (L₁.next g) (L₁.next (L₁.next g)) (2 * C₁.edges) (2 * C₁.edges + 1)
    F₁ = frame G S₁

    O₁ : Outer C₁ L₁ (L₁.prev g) g (L₁.next g) (L₁.next (L₁.next g))
    O₁ = outer W S₁.edge S₁.outer

    back : L₁.next g ≡ l
    back = W.links.next-prev X.in-l

    after : L₁.next (L₁.next g) ≡ r
    after = ap L₁.next back ∙ X.next-l

    right-g : cross_of (away a b v) (direction L₁ p g) <ℤ pos 0
    unfolding direction
    right-g =
        let B = Y.beyond S₁.edge S₁.outer (λ q. e-n W O₁ (q ∙ sym back)) (λ q. e-q W O₁ (q ∙ sym after)) in
        seen-away (p (L₁.origin g)) (p (to L₁ g)) v a b B.first B.second (lt_z_yes t)

    right-n : cross_of (away a b v) (direction L₁ p (L₁.next g)) <ℤ pos 0
    right-n = subst (λ (x : ℕ). cross_of (away a b v) (direction L₁ p x) <ℤ pos 0) (sym back) Y.at-l

    left-new : Facing p v a b (with_face C₁) K₁ (2 * C₁.edges + 1) r
    left-new = record {
      rest = λ {x} i z c d e. rest c d e (F₁.was i z);
      beyond = λ {x} i z d e. beyond d e (F₁.was i z);
      at-l = new-right G S₁ (away a b v) right-g right-n;
      at-r = subst (λ (u : Vector). cross_of (away a b v) u <ℤ pos 0) (sym (kept G S₁ X.in-r)) Y.at-r;
    }
      where
        rest : {x : ℕ} → x ≢ K₁.prev (2 * C₁.edges + 1) → x ≢ 2 * C₁.edges + 1 → x ≢ r
            → (x ≡ 2 * C₁.edges + 1) ⊎ (In C₁ x × (L₁.face x ≡ 0) × (x ≢ g) × (x ≢ L₁.next g))
            → RightTurn (direction K₁ p x) (direction K₁ p (K₁.next x))
        rest c d e (inl q) = absurd (d q)
        rest {x} c d e (inr (i, o, f, h)) =
            subst₂ (λ (u w : Vector). RightTurn u w) (sym (kept G S₁ i))
            (sym (ap (direction K₁ p) (F₁.next-rest i (λ q. c (q ∙ sym F₁.prev-o)) h) ∙ kept G S₁ (W.ranges.next< i)))
            (Y.rest i o f (λ q. h (q ∙ sym back)) e)

        beyond : {x : ℕ} → x ≢ 2 * C₁.edges + 1 → x ≢ r
            → (x ≡ 2 * C₁.edges + 1) ⊎ (In C₁ x × (L₁.face x ≡ 0) × (x ≢ g) × (x ≢ L₁.next g)) → Behind p a b K₁ x
        beyond d e (inl q) = absurd (d q)
        beyond {x} d e (inr (i, o, f, h)) = behind-kept G S₁ i (Y.beyond i o (λ q. h (q ∙ sym back)) e)

    pub left-facing : Facing p v a b (cover_edge room p m g g).counts (cover_edge room p m g g).links (2 * C₁.edges + 1) r
    left-facing =
        let j = X.in-r in
        let W'' : Wf (with_face C₁) (cover_edge room p m g g).links = subst (λ (D : Counts). Wf D (cover_edge room p m g g).links) S₁.counts (closed-good G S₁).wf in
        subst (λ (D : Counts). Facing p v a b D (cover_edge room p m g g).links (2 * C₁.edges + 1) r) (sym S₁.counts)
        (facing-same p (added G S₁).wf W'' (closed-boundary G S₁) (omega arith) F₁.outer-o (omega arith)
        (F₁.outer-rest X.in-r X.outer-r (λ q. e-q W O₁ (sym q ∙ sym after)) (λ q. n-q W O₁ (sym q ∙ sym after))) left-new)

    pub left-leaves : leaves_along (left (away a b v)) (cover_edge room p m g g).counts (cover_edge room p m g g).links p
        ≡ leaves_along (left (away a b v)) C₁ L₁ p
    left-leaves = closed-leaves G S₁ (away a b v) right-g right-n

  -- to the right
  module _ (t : T (sees_edge L₁ p v (L₁.next r))) where
    abbrev n : ℕ
    n = L₁.next r

    abbrev N : Links
    N = create_single_face_between_edge_and_next L₁ C₁ r

    S₂ : CornerClosed p m (cover_edge room p m r n) r
    S₂ = right-closes room p here m G X t

    F₂ : SingleFaceFrame C₁ (with_face C₁) L₁ N (L₁.prev r) r n (L₁.next n) (2 * C₁.edges) (2 * C₁.edges + 1)
    F₂ = frame G S₂

    O₂ : Outer C₁ L₁ (L₁.prev r) r n (L₁.next n)
    O₂ = outer W S₂.edge S₂.outer

    four₂ : L₁.prev r ≢ L₁.next n
    four₂ = corner-four W G.turning S₂.edge S₂.outer S₂.left

    old-l : (l ≢ r) × (l ≢ n) × (l ≢ L₁.next n)
    old-l = let c = X.prev-r in (λ q. p-e W O₂ (cc), λ q. p-n W O₂ (cc), λ q. four₂ (cc))

    right-r : cross_of (away a b v) (direction L₁ p n) <ℤ pos 0
    unfolding direction
    right-r =
        let B = Y.beyond O₂.in-n O₂.face-n (λ q. old-l.1 (sym q)) (λ q. e-n W O₂ (sym q)) in
        seen-away (p (L₁.origin n)) (p (to L₁ n)) v a b B.first B.second (lt_z_yes t)

    right_new : Facing p v a b (with_face C₁) N l (2 * C₁.edges + 1)
    right_new = record {
      rest = λ {x} i z c d e. rest c d e (F₂.was i z);
      beyond = λ {x} i z d e. beyond d e (F₂.was i z);
      at-l = subst (λ (u : Vector). cross_of (away a b v) u <ℤ pos 0) (sym (kept G S₂ X.in-l)) Y.at-l;
      at-r = new-right G S₂ (away a b v) Y.at-r right-r;
    }
      where
        rest : {x : ℕ} → x ≢ N.prev l → x ≢ l → x ≢ 2 * C₁.edges + 1
            → (x ≡ 2 * C₁.edges + 1) ⊎ (In C₁ x × (L₁.face x ≡ 0) × (x ≢ r) × (x ≢ n))
            → RightTurn (direction N p x) (direction N p (N.next x))
        rest c d e (inl q) = absurd (e q)
        rest {x} c d e (inr (i, o, f, h)) =
            subst₂ (λ (u w : Vector). RightTurn u w) (sym (kept G S₂ i))
            (sym (ap (direction N p) (F₂.next-rest i (λ q. d (q ∙ X.prev-r)) h) ∙ kept G S₂ (W.ranges.next< i)))
            (Y.rest i o (λ q. c (q ∙ sym (F₂.prev-rest X.in-l old-l.0 old-l.2))) d f)

        beyond : {x : ℕ} → x ≢ l → x ≢ 2 * C₁.edges + 1
            → (x ≡ 2 * C₁.edges + 1) ⊎ (In C₁ x × (L₁.face x ≡ 0) × (x ≢ r) × (x ≢ n)) → Behind p a b N x
        beyond d e (inl q) = absurd (e q)
        beyond {x} d e (inr (i, o, f, h)) = behind-kept G S₂ i (Y.beyond i o d f)

    pub right-facing : Facing p v a b (cover_edge room p m r n).counts (cover_edge room p m r n).links l (2 * C₁.edges + 1)
    right-facing =
        let j = X.in-l in
        let W'' : Wf (with_face C₁) (cover_edge room p m r n).links = subst (λ (D : Counts). Wf D (cover_edge room p m r n).links) S₂.counts (closed-good G S₂).wf in
        subst (λ (D : Counts). Facing p v a b D (cover_edge room p m r n).links l (2 * C₁.edges + 1)) (sym S₂.counts)
        (facing-same p (added G S₂).wf W'' (closed-boundary G S₂) (omega arith) (F₂.outer-rest X.in-l X.outer-l old-l.0 old-l.1)
        (omega arith) F₂.outer-o right_new)

    pub right-leaves : leaves_along (left (away a b v)) (cover_edge room p m r n).counts (cover_edge room p m r n).links p
        ≡ leaves_along (left (away a b v)) C₁ L₁ p
    right-leaves = closed-leaves G S₂ (away a b v) Y.at-r right-r
