-- `create_new_face_adjacent_to_edge` at an outer half-edge, with a new vertex, keeps the rules: those of the links, and
-- each of the two others. The half-edge before and the one after may be the same: so it is on a line of two points.
-- Assumes nothing.
use Rattle.std.specs.Prelude.{ℕ, ◌+◌, ◌*◌, ◌<◌, ◌≡◌, refl, ◌≢◌, ◌⊎◌, List, [], ◌∷◌}
use Rattle.std.proofs.Common.{arith, sym, ◌∙◌, ⊎_elim, inl, inr}
use Rattle.mesh.specs.declared.Counts.{Counts}
use Rattle.mesh.specs.Mesh.{Links, In, to, turn}
use Rattle.mesh.specs.Operations.{create_new_face_adjacent_to_edge, with_vertex}
use Rattle.mesh.specs.Wf.{Wf, Ranges, Linked, Vertices}
use Rattle.mesh.specs.LinkRules.{LinkRules, FaceCycles, Wide, Sided}
use Rattle.mesh.specs.LinkRulesWf.{link-rules, wide_of, sided-of}
use Rattle.mesh.specs.Cases.{over}
use Rattle.mesh.specs.Frame.{Keeps, SameFace, Corners, kept-face, link-still-round}
use Rattle.mesh.specs.Triangle.{Outer, link-p-e, link-e-n, rev-in}
use Rattle.mesh.specs.FaceAdjacent.{FaceAdjacent}
use Rattle.sums.proofs.Cases.{All, None, each}
use Rattle.sums.specs.Half.{rev}
use Rattle.sums.proofs.HalfLaws.{rev-rev}
use Rattle.sums.specs.Put.{put}
use Rattle.sums.proofs.PutLaws.{put_same, put_other}
use Rattle.sums.proofs.IterateLaws.{Reach, reach-at, reach-one, reach-two, reach-trans, reach-by}

-- What the operation leaves, the corners of the new face, and the boundary: p, b', a', n in place of p, e, n, and the rest as it was.
pub record NewFaceFrame (C C' : Counts) (L L' : Links) (p e n a a' b b' : ℕ) : Type 0 where
  pub ends : {x : ℕ} → In C x → (L'.origin x ≡ L.origin x) × (to L' x ≡ to L x)
  pub inner : (x : ℕ) → In C x → 0 < L.face x → Keeps L L' x
  pub others : {f : ℕ} → 0 < f → f < C.faces → SameFace L L' f
  pub stored-new : L'.adjacent C.faces ≡ e
  pub corners-new : Corners L' C.faces (L.origin e) (to L e) C.vertices
  pub stored-outer : L'.adjacent 0 ≡ b'
  pub outer-b' : L'.face b' ≡ 0
  pub outer-a' : L'.face a' ≡ 0
  pub origin-b' : L'.origin b' ≡ L.origin e
  pub end-b' : to L' b' ≡ C.vertices
  pub origin-a' : L'.origin a' ≡ C.vertices
  pub end-a' : to L' a' ≡ to L e
  pub next-p : L'.next p ≡ b'
  pub next-b' : L'.next b' ≡ a'
  pub next-a' : L'.next a' ≡ n
  pub prev-b' : L'.prev b' ≡ p
  pub prev-a' : L'.prev a' ≡ b'
  pub prev-n : L'.prev n ≡ a'
  pub outer-rest : {x : ℕ} → In C x → L.face x ≡ 0 → x ≢ e → L'.face x ≡ 0
  pub next-rest : {x : ℕ} → In C x → x ≢ p → x ≢ e → L'.next x ≡ L.next x
  pub prev-rest : {x : ℕ} → In C x → x ≢ e → x ≢ n → L'.prev x ≡ L.prev x
  pub was : {x : ℕ} → In C' x → L'.face x ≡ 0 → (x ≡ b') ⊎ (x ≡ a') ⊎ (In C x × (L.face x ≡ 0) × (x ≢ e))

-- what is below m + 4 and none of the four from m on is below m
pub below : {x m a a' b b' : ℕ} → a ≡ m → a' ≡ m + 1 → b ≡ m + 2 → b' ≡ m + 3 → x < m + 4 → x ≢ a → x ≢ a' → x ≢ b → x ≢ b' → x < m
below p q r s h i j k l = omega arith

module _ {C C' : Counts} {L L' : Links} {p e n q a a' b b' : ℕ} (W : LinkRules C L) (A : Outer C L p e n q)
    (F : FaceAdjacent C C' L L' p e n a a' b b') where
  abbrev new : List ℕ
  new = a ∷ a' ∷ b ∷ b' ∷ []

  -- an old half-edge is none of the four new ones
  old : {x : ℕ} → In C x → None x new
  old h = (omega arith, (omega arith, (omega arith, (omega arith, tt))))

  -- a statement of every half-edge: at the new ones, at some of the old, and at the other old ones
  every : (P : ℕ → Type 0) (l : List ℕ) → All P new → All P l → ((x : ℕ) → In C x → None x l → P x) → {x : ℕ} → In C' x → P x
  every P l c d f h = over P (2 * C.edges) (2 * C'.edges) new l
      (λ x h k. below F.a-is F.a'-is F.b-is F.b'-is (omega arith) k.0 k.1.0 k.1.1.0 k.1.1.1.0) c d f h

  far : (x : ℕ) → In C x → (L'.origin x ≡ L.origin x) × (to L' x ≡ to L x)
  far x h = (F.origin-rest (old h), F.origin-rest (old (rev-in C h)))

  next-old : {x : ℕ} → In C x → x ≢ p → x ≢ e → L'.next x ≡ L.next x
  next-old h c d = let k = old h in F.next-rest (k.0, (k.1.0, (k.1.1.0, (k.1.1.1.0, (c, (d, tt))))))

  prev-old : {x : ℕ} → In C x → x ≢ e → x ≢ n → L'.prev x ≡ L.prev x
  prev-old h c d = let k = old h in F.prev-rest (k.0, (k.1.0, (k.1.1.0, (k.1.1.1.0, (c, (d, tt))))))

  face-old : {x : ℕ} → In C x → x ≢ e → L'.face x ≡ L.face x
  face-old h c = let k = old h in F.face-rest (k.0, (k.1.0, (k.1.1.0, (k.1.1.1.0, (c, tt)))))

  face-p' : L'.face p ≡ 0
  face-p' = face-old A.in_p (link-p-e W A) ∙ A.face-p

  face-n' : L'.face n ≡ 0
  face-n' = face-old A.in-n (λ k. link-e-n W A (sym k)) ∙ A.face-n

  links : Linked C' L'
  links = let fp = face-p' in let fn = face-n' in let op = far p A.in_p in let oe = far e A.in_e in let on = far n A.in-n in record {
    prev-next = every (λ x. L'.prev (L'.next x) ≡ x) (p ∷ e ∷ []) (cc, (cc, (cc, (cc, tt)))) (cc, (cc, tt))
        (λ x h k. let c = next-old h k.0 k.1.0 in let d = W.links.prev-next h in
        let f = prev-old (W.ranges.next< h) (λ (m : L.next x ≡ e). k.0 (cc)) (λ (m : L.next x ≡ n). k.1.0 (cc)) in cc);
    next-prev = every (λ x. L'.next (L'.prev x) ≡ x) (e ∷ n ∷ []) (cc, (cc, (cc, (cc, tt)))) (cc, (cc, tt))
        (λ x h k. let c = prev-old h k.0 k.1.0 in let d = W.links.next-prev h in
        let f = next-old (W.ranges.prev< h) (λ (m : L.prev x ≡ p). k.0 (cc)) (λ (m : L.prev x ≡ e). k.1.0 (cc)) in cc);
    face-next = every (λ x. L'.face (L'.next x) ≡ L'.face x) (p ∷ e ∷ []) (cc, (cc, (cc, (cc, tt)))) (cc, (cc, tt))
        (λ x h k. let c = next-old h k.0 k.1.0 in let d = W.links.prev-next h in let g = W.links.face-next h in
        let f = face-old (W.ranges.next< h) (λ (m : L.next x ≡ e). k.0 (cc)) in let i = face-old h k.1.0 in cc);
    origin-next = every (λ x. L'.origin (L'.next x) ≡ L'.origin (rev x)) (p ∷ e ∷ []) (cc, (cc, (cc, (cc, tt)))) (cc, (cc, tt))
        (λ x h k. let c = next-old h k.0 k.1.0 in let d = far x h in let f = far (L.next x) (W.ranges.next< h) in
        let g = W.links.origin-next h in cc);
  }

  ranges : Ranges C' L'
  ranges = let oe = W.ranges.origin< A.in_e in let on = W.ranges.origin< (rev-in C A.in_e) in record {
    next< = every (λ x. In C' (L'.next x)) (p ∷ e ∷ []) (omega arith, (omega arith, (omega arith, (omega arith, tt)))) (omega arith, (omega arith, tt))
        (λ x h k. let c = next-old h k.0 k.1.0 in let d = W.ranges.next< h in omega arith);
    prev< = every (λ x. In C' (L'.prev x)) (e ∷ n ∷ []) (omega arith, (omega arith, (omega arith, (omega arith, tt)))) (omega arith, (omega arith, tt))
        (λ x h k. let c = prev-old h k.0 k.1.0 in let d = W.ranges.prev< h in omega arith);
    face< = every (λ x. L'.face x < C'.faces) (e ∷ []) (omega arith, (omega arith, (omega arith, (omega arith, tt)))) (omega arith, tt)
        (λ x h k. let c = face-old h k.0 in let d = W.ranges.face< h in omega arith);
    origin< = every (λ x. L'.origin x < C'.vertices) [] (omega arith, (omega arith, (omega arith, (omega arith, tt)))) tt
        (λ x h k. let c = far x h in let d = W.ranges.origin< h in omega arith);
    adjacent< = λ {f} h. each {P = λ f. f < C'.faces → In C' (L'.adjacent f)} (0 ∷ C.faces ∷ []) (λ _. omega arith, (λ _. omega arith, tt))
        (λ f k h. let c = F.adjacent-rest k.0 k.1.0 in let d : In C (L.adjacent f) = W.ranges.adjacent< (omega (arith, k.1.0)) in omega arith) f h;
    out< = λ {v} h. each {P = λ v. v < C'.vertices → In C' (L'.out v)} (C.vertices ∷ []) (λ _. omega arith, tt)
        (λ v k h. let c = F.out-rest k.0 in let d : In C (L.out v) = W.ranges.out< (omega (arith, k.0)) in omega arith) v h;
  }

  -- an old inner half-edge keeps its links, its face and its ends
  keeps : (x : ℕ) → In C x → 0 < L.face x → Keeps L L' x
  keeps x h f = let c : L.face x ≢ 0 = omega arith in let k = far x h in record {
    next = next-old h (λ k. c (cc)) (λ k. c (cc));
    prev = prev-old h (λ k. c (cc)) (λ k. c (cc));
    face = face-old h (λ k. c (cc));
    origin = k.0;
    end = k.1;
  }

  -- an old half-edge that is not of the new face, as to its face
  inner-was : {x : ℕ} → In C x → x ≢ e → 0 < L'.face x → 0 < L.face x
  inner-was h k f = rw (face-old h k) at f

  outer-was : {x : ℕ} → In C x → L'.face x ≡ 0 → (L.face x ≡ 0) × (x ≢ e)
  outer-was {x} h z = each {P = λ x. In C x → L'.face x ≡ 0 → (L.face x ≡ 0) × (x ≢ e)} (e ∷ [])
      (λ _ z. absurd (omega (arith, W.some)), tt) (λ x k h z. (cc (face-old h k.0), k.0)) x h z

  -- the boundary: b' stands for e
  past : ℕ → ℕ
  past = put (λ x. x) e b'

  past-e : past e ≡ b'
  unfolding past
  past-e = put_same _ e b'

  past-rest : {x : ℕ} → x ≢ e → past x ≡ x
  unfolding past
  past-rest {x} c = put_other _ e b' x c

  walks : (x : ℕ) → In C x → Reach L'.next (past x) (past (L.next x))
  walks = let c = past-e in let d = past-rest (link-p-e W A) in let f = past-rest (λ k. link-e-n W A (sym k)) in
      each {P = λ x. In C x → Reach L'.next (past x) (past (L.next x))} (p ∷ e ∷ []) (λ _. reach-one (cc), (λ _. reach-two (cc), tt))
      (λ x k h. let c = W.links.prev-next h in let d = past-rest k.1.0 in let f = next-old h k.0 k.1.0 in
      let g = past-rest (λ (m : L.next x ≡ e). k.0 (cc)) in reach-one (cc))

  -- each half-edge of the new boundary leads to one of the old, and is met from one
  abbrev Met : (ℕ → ℕ → Type 0) → ℕ → Type 0
  Met R x = (y : ℕ) × In C y × (L.face y ≡ 0) × R x (past y)

  leads : {x : ℕ} → In C' x → L'.face x ≡ 0 → Met (λ x y. Reach L'.next x y) x
  leads {x} h z = let c = past-e in let f = past-rest (λ k. link-e-n W A (sym k)) in
      every (λ x. L'.face x ≡ 0 → Met (λ x y. Reach L'.next x y) x) []
      (λ z. absurd (omega (arith, W.some)), (λ z. (n, A.in-n, A.face-n, reach-one (cc)), (λ z. absurd (omega (arith, W.some)), (λ z. (e, A.in_e, A.face-e, reach-at (cc)), tt)))) tt
      (λ x h k z. let w = outer-was h z in (x, h, w.0, reach-at (sym (past-rest w.1)))) h z

  comes : {x : ℕ} → In C' x → L'.face x ≡ 0 → Met (λ x y. Reach L'.next y x) x
  comes {x} h z = let c = past-e in
      every (λ x. L'.face x ≡ 0 → Met (λ x y. Reach L'.next y x) x) []
      (λ z. absurd (omega (arith, W.some)), (λ z. (e, A.in_e, A.face-e, reach-one (cc)), (λ z. absurd (omega (arith, W.some)), (λ z. (e, A.in_e, A.face-e, reach-at (cc)), tt)))) tt
      (λ x h k z. let w = outer-was h z in (x, h, w.0, reach-at (past-rest w.1))) h z

  faces : FaceCycles C' L'
  faces = record {
    stored = λ {f} h. each {P = λ f. f < C'.faces → L'.face (L'.adjacent f) ≡ f} (0 ∷ C.faces ∷ []) (λ _. cc, (λ _. cc, tt))
        (λ f k h. let l : f < C.faces = omega (arith, k.1.0) in let s = W.faces.stored l in let c = F.adjacent-rest k.0 k.1.0 in
        let d = keeps _ (W.ranges.adjacent< l) (omega (arith, k.0)) in cc) f h;
    three = every (λ x. 0 < L'.face x → L'.next (L'.next x) ≡ L'.prev x) (e ∷ []) (λ _. cc, (λ f. absurd (omega arith), (λ _. cc, (λ f. absurd (omega arith), tt)))) (λ _. cc, tt)
        (λ x h k f. let g = inner-was h k.0 f in let c = keeps x h g in let d = W.links.face-next h in
        let i = keeps _ (W.ranges.next< h) (omega arith) in let j = W.faces.three h g in cc);
    apart = every (λ x. L'.next x ≢ x) (p ∷ e ∷ []) (omega arith, (omega arith, (omega arith, (omega arith, tt)))) (omega arith, (omega arith, tt))
        (λ x h k. rw (next-old h k.0 k.1.0) (W.faces.apart h));
    inner = every (λ x. 0 < L'.face x → (x ≡ L'.adjacent (L'.face x)) ⊎ (x ≡ L'.next (L'.adjacent (L'.face x))) ⊎ (x ≡ L'.prev (L'.adjacent (L'.face x)))) (e ∷ [])
        (λ _. inr (inl (cc)), (λ f. absurd (omega arith), (λ _. inr (inr (cc)), (λ f. absurd (omega arith), tt)))) (λ _. inl (cc), tt)
        (λ x h k f. let g = inner-was h k.0 f in let c = keeps x h g in let l = W.ranges.face< h in let s = W.faces.stored l in
        let d = F.adjacent-rest {f = L.face x} (omega arith) (omega arith) in let i = keeps _ (W.ranges.adjacent< l) (omega arith) in
        ⊎_elim (λ w. inl (cc)) (⊎_elim (λ w. inr (inl (cc))) (λ w. inr (inr (cc)))) (W.faces.inner h g));
    outer = λ {d = x} {e = y} h k c d. let v = leads h c in let w = comes k d in
        reach-trans v.3 (reach-trans (reach-by (In C) past (λ z l. W.ranges.next< l) walks v.1 (W.faces.outer v.1 w.1 v.2 w.2)) w.3);
  }

  turns : (x : ℕ) → In C x → Reach (turn L') x (turn L x)
  turns = each {P = λ x. In C x → Reach (turn L') x (turn L x)} (e ∷ n ∷ []) (λ _. reach-two (cc), (λ _. reach-two (cc), tt))
      (λ x k h. reach-one (cc (prev-old h k.0 k.1.0)))

  -- a half-edge leaves the new vertex, or it turns to an old one and is met from one
  abbrev Kind : ℕ → Type 0
  Kind x = ((L'.origin x ≡ C.vertices) × Reach (turn L') x b × Reach (turn L') b x)
      ⊎ ((y : ℕ) × (z : ℕ) × In C y × In C z × (L.origin y ≡ L'.origin x) × (L.origin z ≡ L'.origin x) × Reach (turn L') x y × Reach (turn L') z x)

  kind : {x : ℕ} → In C' x → Kind x
  kind = every Kind [] (
    inr (rev e, n, rev-in C A.in_e, A.in-n, cc, cc, reach-one (cc), reach-one (cc)),
    (
      inl (F.origin-a', reach-one (cc), reach-one (cc)),
      (inl (F.origin-b, reach-at refl, reach-at refl), (inr (rev p, e, rev-in C A.in_p, A.in_e, cc, cc, reach-one (cc), reach-one (cc)), tt)),
    ),
  ) tt
      (λ x h k. let o = sym (far x h).0 in inr (x, x, h, h, o, o, reach-at refl, reach-at refl))

  meet : {x y : ℕ} → Kind x → Kind y → L'.origin x ≡ L'.origin y → Reach (turn L') x y
  meet (inl c) (inl d) r = reach-trans c.1 d.2
  meet (inl c) (inr d) r = absurd (omega (arith, W.ranges.origin< d.2))
  meet (inr c) (inl d) r = absurd (omega (arith, W.ranges.origin< c.2))
  meet (inr c) (inr d) r = reach-trans c.6 (reach-trans (link-still-round W L' turns c.2 d.3 (c.4 ∙ r ∙ sym d.5)) d.7)

  about : Vertices C' L'
  about = record {
    based = λ {v} h. each {P = λ v. v < C'.vertices → L'.origin (L'.out v) ≡ v} (C.vertices ∷ []) (λ _. cc, tt)
        (λ v k h. let l : v < C.vertices = omega (arith, k.0) in let c = F.out-rest k.0 in let d = far (L.out v) (W.ranges.out< l) in cc (W.about.based l)) v h;
    round = λ {d = x} {e = y} h k r. meet (kind h) (kind k) r;
  }

  pub adjacent-keeps : LinkRules C' L'
  adjacent-keeps = record { ranges = ranges; links = links; faces = faces; about = about; euler = omega (arith, W.euler); some = omega arith }

  -- the two rules that a line breaks, where they held
  pub adjacent-wide : Wide C L → Wide C' L'
  adjacent-wide w x h z = every (λ x. L'.face x ≡ 0 → L'.next (L'.next x) ≢ x) (p ∷ []) (
    λ z. absurd (omega (arith, W.some)),
    (
      λ z m. let c = next-old A.in-n (λ k. w p A.in_p A.face-p (cc)) (λ k. link-e-n W A (sym k)) in
          (old (W.ranges.next< A.in-n)).1.0 (cc),
      (λ z. absurd (omega (arith, W.some)), (λ z m. (old A.in-n).1.1.1.0 (cc), tt)),
    ),
  )
      (λ z m. (old A.in_p).1.0 (cc), tt)
      (λ x h k z m. let o = outer-was h z in let c = next-old h k.0 o.1 in let d = W.links.prev-next h in
      each {P = λ y. L.next x ≡ y → L'.next y ≢ x} (p ∷ []) (λ _ m. (old h).1.1.1.0 (cc), tt)
      (λ y l r m. let f : L'.next (L.next x) ≡ L.next (L.next x) = next-old (W.ranges.next< h) (λ t. l.0 (cc)) (λ t. k.0 (cc)) in
      w x h o.0 (cc)) (L.next x) refl (cc)) h z

  pub adjacent-sided : Sided C L → Sided C' L'
  adjacent-sided s x h z = every (λ x. L'.face x ≡ 0 → 0 < L'.face (rev x)) [] (
    λ z. absurd (omega (arith, W.some)),
    (
      λ z. rw (F.rev-a', F.face-a) W.some,
      (λ z. absurd (omega (arith, W.some)), (λ z. rw (F.rev-b', F.face-b) W.some, tt)),
    ),
  ) tt
      (λ x h k z. let i = s x h (outer-was h z).0 in rw (keeps _ (rev-in C h) i).face i) h z

  pub adjacent-frame : NewFaceFrame C C' L L' p e n a a' b b'
  adjacent-frame = let oe = far e A.in_e in record {
    ends = λ {x} h. far x h;
    inner = keeps;
    others = λ {f} z l. kept-face W keeps z l (F.adjacent-rest (λ k. omega arith) (λ k. omega arith));
    stored-new = F.adjacent-new;
    corners-new = record { first = cc; second = cc; third = cc };
    stored-outer = F.adjacent-outer;
    outer-b' = F.face-b';
    outer-a' = F.face-a';
    origin-b' = F.origin-b';
    end-b' = cc;
    origin-a' = F.origin-a';
    end-a' = cc;
    next-p = F.next-p;
    next-b' = F.next-b';
    next-a' = F.next-a';
    prev-b' = F.prev-b';
    prev-a' = F.prev-a';
    prev-n = F.prev-n;
    outer-rest = λ h z k. face-old h k ∙ z;
    next-rest = next-old;
    prev-rest = prev-old;
    was = λ {x} h z. every (λ x. L'.face x ≡ 0 → (x ≡ b') ⊎ (x ≡ a') ⊎ (In C x × (L.face x ≡ 0) × (x ≢ e))) []
        (λ z. absurd (omega (arith, W.some)), (λ z. inr (inl refl), (λ z. absurd (omega (arith, W.some)), (λ z. inl refl, tt)))) tt
        (λ x h k z. let w = outer-was h z in inr (inr (h, w.0, w.1))) h z;
  }
