-- `create_single_face_between_edge_and_next` at an outer half-edge keeps the rules: those of the links, and each of the two
-- others, where the half-edges around it on the boundary differ. In a mesh they do when the boundary has at least four
-- edges: it has one less afterwards.
-- Assumes nothing.
use Rattle.std.specs.Prelude.{ℕ, ◌+◌, ◌*◌, ◌<◌, ◌≡◌, refl, ◌≢◌, ◌⊎◌, List, [], ◌∷◌}
use Rattle.std.proofs.Common.{arith, sym, ◌∙◌, ⊎_elim, inl, inr}
use Rattle.mesh.specs.declared.Counts.{Counts}
use Rattle.mesh.specs.Mesh.{Links, In, to, turn}
use Rattle.mesh.specs.Operations.{create_single_face_between_edge_and_next, with_face}
use Rattle.mesh.specs.Wf.{Wf, Ranges, Linked, Vertices}
use Rattle.mesh.specs.LinkRules.{LinkRules, FaceCycles, Wide, Sided}
use Rattle.mesh.specs.LinkRulesWf.{link-rules, wide_of, sided-of}
use Rattle.mesh.specs.Cases.{over}
use Rattle.mesh.specs.Frame.{Keeps, SameFace, Corners, kept-face, link-still-round}
use Rattle.mesh.specs.Triangle.{Outer, link-p-e, link-e-n, link-n-q, rev-in}
use Rattle.mesh.specs.FaceBetween.{FaceBetween}
use Rattle.sums.proofs.Cases.{All, None, each}
use Rattle.sums.specs.Half.{rev}
use Rattle.sums.proofs.HalfLaws.{rev-rev}
use Rattle.sums.specs.Put.{put}
use Rattle.sums.proofs.PutLaws.{put_same, put_other}
use Rattle.sums.proofs.IterateLaws.{Reach, reach-at, reach-one, reach-two, reach-trans, reach-by}

-- What the operation leaves, the corners of the new face, and the boundary: p, o, q in place of p, e, n, q, and the rest as it was.
pub record SingleFaceFrame (C C' : Counts) (L L' : Links) (p e n q i o : ℕ) : Type 0 where
  pub ends : {x : ℕ} → In C x → (L'.origin x ≡ L.origin x) × (to L' x ≡ to L x)
  pub inner : (x : ℕ) → In C x → 0 < L.face x → Keeps L L' x
  pub others : {f : ℕ} → 0 < f → f < C.faces → SameFace L L' f
  pub stored-new : L'.adjacent C.faces ≡ i
  pub corners-new : Corners L' C.faces (to L n) (L.origin e) (L.origin n)
  pub stored-outer : L'.adjacent 0 ≡ o
  pub outer-o : L'.face o ≡ 0
  pub origin-o : L'.origin o ≡ L.origin e
  pub end-o : to L' o ≡ to L n
  pub next-p : L'.next p ≡ o
  pub next-o : L'.next o ≡ q
  pub prev-o : L'.prev o ≡ p
  pub prev-q : L'.prev q ≡ o
  pub outer-rest : {x : ℕ} → In C x → L.face x ≡ 0 → x ≢ e → x ≢ n → L'.face x ≡ 0
  pub next-rest : {x : ℕ} → In C x → x ≢ p → x ≢ n → L'.next x ≡ L.next x
  pub prev-rest : {x : ℕ} → In C x → x ≢ e → x ≢ q → L'.prev x ≡ L.prev x
  pub was : {x : ℕ} → In C' x → L'.face x ≡ 0 → (x ≡ o) ⊎ (In C x × (L.face x ≡ 0) × (x ≢ e) × (x ≢ n))

-- what is below m + 2 and none of the two from m on is below m
pub below : {x m i o : ℕ} → i ≡ m → o ≡ m + 1 → x < m + 2 → x ≢ i → x ≢ o → x < m
below p q h j k = omega arith

module _ {C C' : Counts} {L L' : Links} {p e n q i o : ℕ} (W : LinkRules C L) (A : Outer C L p e n q)
    (F : FaceBetween C C' L L' p e n q i o) (pn : p ≢ n) (eq : e ≢ q) (four : p ≢ q) where
  -- an old half-edge is none of the two new ones
  old : {x : ℕ} → In C x → (x ≢ i) × (x ≢ o)
  old h = (omega arith, omega arith)

  -- a statement of every half-edge: at the new ones, at some of the old, and at the other old ones
  every : (P : ℕ → Type 0) (l : List ℕ) → P i → P o → All P l → ((x : ℕ) → In C x → None x l → P x) → {x : ℕ} → In C' x → P x
  every P l pi po a f h = over P (2 * C.edges) (2 * C'.edges) (i ∷ o ∷ []) l
      (λ x h k. below F.i-is F.o_is (omega arith) k.0 k.1.0) (pi, (po, tt)) a f h

  far : (x : ℕ) → In C x → (L'.origin x ≡ L.origin x) × (L'.origin (rev x) ≡ L.origin (rev x))
  far x h = let k = old h in let l = old (rev-in C h) in (F.origin-rest (k.0, (k.1, tt)), F.origin-rest (l.0, (l.1, tt)))

  next-old : {x : ℕ} → In C x → x ≢ p → x ≢ n → L'.next x ≡ L.next x
  next-old h a b = let k = old h in F.next-rest (k.0, (k.1, (a, (b, tt))))

  prev-old : {x : ℕ} → In C x → x ≢ e → x ≢ q → L'.prev x ≡ L.prev x
  prev-old h a b = let k = old h in F.prev-rest (k.0, (k.1, (a, (b, tt))))

  face-old : {x : ℕ} → In C x → x ≢ e → x ≢ n → L'.face x ≡ L.face x
  face-old h a b = let k = old h in F.face-rest (k.0, (k.1, (a, (b, tt))))

  next-e' : L'.next e ≡ n
  next-e' = next-old A.in_e (λ k. link-p-e W A (sym k)) (link-e-n W A) ∙ A.next-e

  prev-n' : L'.prev n ≡ e
  prev-n' = prev-old A.in-n (λ k. link-e-n W A (sym k)) (link-n-q W A) ∙ A.prev-n

  face-p' : L'.face p ≡ 0
  face-p' = face-old A.in_p (link-p-e W A) pn ∙ A.face-p

  face-q' : L'.face q ≡ 0
  face-q' = face-old A.in-q (λ k. eq (sym k)) (λ k. link-n-q W A (sym k)) ∙ A.face-q

  links : Linked C' L'
  links = let ne' = next-e' in let pn' = prev-n' in let fp = face-p' in let fq = face-q' in
      let op = far p A.in_p in let oe = far e A.in_e in let on = far n A.in-n in let oq = far q A.in-q in record {
        prev-next = every (λ x. L'.prev (L'.next x) ≡ x) (p ∷ n ∷ []) (cc) (cc) (cc, (cc, tt))
            (λ x h k. let a = next-old h k.0 k.1.0 in let c = W.links.prev-next h in
            let b = prev-old (W.ranges.next< h) (λ (m : L.next x ≡ e). k.0 (cc)) (λ (m : L.next x ≡ q). k.1.0 (cc)) in cc);
        next-prev = every (λ x. L'.next (L'.prev x) ≡ x) (e ∷ q ∷ []) (cc) (cc) (cc, (cc, tt))
            (λ x h k. let a = prev-old h k.0 k.1.0 in let c = W.links.next-prev h in
            let b = next-old (W.ranges.prev< h) (λ (m : L.prev x ≡ p). k.0 (cc)) (λ (m : L.prev x ≡ n). k.1.0 (cc)) in cc);
        face-next = every (λ x. L'.face (L'.next x) ≡ L'.face x) (p ∷ e ∷ n ∷ []) (cc) (cc) (cc, (cc, (cc, tt)))
            (λ x h k. let a = next-old h k.0 k.1.1.0 in let c = W.links.prev-next h in let d = W.links.face-next h in
            let b = face-old (W.ranges.next< h) (λ (m : L.next x ≡ e). k.0 (cc)) (λ (m : L.next x ≡ n). k.1.0 (cc)) in
            let f = face-old h k.1.0 k.1.1.0 in cc);
        origin-next = every (λ x. L'.origin (L'.next x) ≡ L'.origin (rev x)) (p ∷ n ∷ []) (cc) (cc) (cc, (cc, tt))
            (λ x h k. let a = next-old h k.0 k.1.0 in let b = far x h in let c = far (L.next x) (W.ranges.next< h) in
            let d = W.links.origin-next h in cc);
      }

  ranges : Ranges C' L'
  ranges = let oe = W.ranges.origin< A.in_e in let on = W.ranges.origin< (rev-in C A.in-n) in record {
    next< = every (λ x. In C' (L'.next x)) (p ∷ n ∷ []) (omega arith) (omega arith) (omega arith, (omega arith, tt))
        (λ x h k. let a = next-old h k.0 k.1.0 in let b = W.ranges.next< h in omega arith);
    prev< = every (λ x. In C' (L'.prev x)) (e ∷ q ∷ []) (omega arith) (omega arith) (omega arith, (omega arith, tt))
        (λ x h k. let a = prev-old h k.0 k.1.0 in let b = W.ranges.prev< h in omega arith);
    face< = every (λ x. L'.face x < C'.faces) (e ∷ n ∷ []) (omega arith) (omega arith) (omega arith, (omega arith, tt))
        (λ x h k. let a = face-old h k.0 k.1.0 in let b = W.ranges.face< h in omega arith);
    origin< = every (λ x. L'.origin x < C'.vertices) [] (omega arith) (omega arith) tt
        (λ x h k. let a = far x h in let b = W.ranges.origin< h in omega arith);
    adjacent< = λ {f} h. each {P = λ f. f < C'.faces → In C' (L'.adjacent f)} (0 ∷ C.faces ∷ []) (λ _. omega arith, (λ _. omega arith, tt))
        (λ f k h. let a = F.adjacent-rest k.0 k.1.0 in let b : In C (L.adjacent f) = W.ranges.adjacent< (omega (arith, k.1.0)) in omega arith) f h;
    out< = λ {v} h. let a = F.out-rest v in let b : In C (L.out v) = W.ranges.out< (omega arith) in omega arith;
  }

  -- an old inner half-edge is none of the four, and keeps its links, its face and its ends
  keeps : (x : ℕ) → In C x → 0 < L.face x → Keeps L L' x
  keeps x h f = let a : L.face x ≢ 0 = omega arith in let k = far x h in record {
    next = next-old h (λ k. a (cc)) (λ k. a (cc));
    prev = prev-old h (λ k. a (cc)) (λ k. a (cc));
    face = face-old h (λ k. a (cc)) (λ k. a (cc));
    origin = k.0;
    end = k.1;
  }

  -- an old half-edge that is not of the new face, as to its face
  inner-was : {x : ℕ} → In C x → None x (e ∷ n ∷ []) → 0 < L'.face x → 0 < L.face x
  inner-was h k f = rw (face-old h k.0 k.1.0) at f

  outer-was : {x : ℕ} → In C x → L'.face x ≡ 0 → (L.face x ≡ 0) × None x (e ∷ n ∷ [])
  outer-was {x} h z = each {P = λ x. In C x → L'.face x ≡ 0 → (L.face x ≡ 0) × None x (e ∷ n ∷ [])} (e ∷ n ∷ [])
      (λ _ z. absurd (omega arith), (λ _ z. absurd (omega arith), tt)) (λ x k h z. (cc (face-old h k.0 k.1.0), k)) x h z

  -- the boundary, past the new face
  past : ℕ → ℕ
  past = put (put (λ x. x) n o) e o

  past-at : (past e ≡ o) × (past n ≡ o)
  unfolding past
  past-at = (put_same _ e o, put_other _ e o n (λ k. link-e-n W A (sym k)) ∙ put_same _ n o)

  past-rest : {x : ℕ} → x ≢ e → x ≢ n → past x ≡ x
  unfolding past
  past-rest {x} a b = put_other _ e o x a ∙ put_other _ n o x b

  walks : (x : ℕ) → In C x → Reach L'.next (past x) (past (L.next x))
  walks = let a = past-at in let b = past-rest (link-p-e W A) pn in let c = past-rest (λ k. eq (sym k)) (λ k. link-n-q W A (sym k)) in
      each {P = λ x. In C x → Reach L'.next (past x) (past (L.next x))} (p ∷ e ∷ n ∷ []) (λ _. reach-one (cc), (λ _. reach-at (cc), (λ _. reach-one (cc), tt)))
      (λ x k h. let c = W.links.prev-next h in let d = past-rest k.1.0 k.1.1.0 in let f = next-old h k.0 k.1.1.0 in
      let g = past-rest (λ (m : L.next x ≡ e). k.0 (cc)) (λ (m : L.next x ≡ n). k.1.0 (cc)) in reach-one (cc))

  -- each half-edge of the new boundary comes from one of the old
  from : {x : ℕ} → In C' x → L'.face x ≡ 0 → (y : ℕ) × In C y × (L.face y ≡ 0) × (past y ≡ x)
  from {x} h z = every (λ x. L'.face x ≡ 0 → (y : ℕ) × In C y × (L.face y ≡ 0) × (past y ≡ x)) []
      (λ z. absurd (omega arith)) (λ z. (e, A.in_e, A.face-e, past-at.0)) tt
      (λ x h k z. let w = outer-was h z in (x, h, w.0, past-rest w.1.0 w.1.1.0)) h z

  faces : FaceCycles C' L'
  faces = let ne' = next-e' in let pn' = prev-n' in let fp = face-p' in let fq = face-q' in record {
    stored = λ {f} h. each {P = λ f. f < C'.faces → L'.face (L'.adjacent f) ≡ f} (0 ∷ C.faces ∷ []) (λ _. cc, (λ _. cc, tt))
        (λ f k h. let l : f < C.faces = omega (arith, k.1.0) in let s = W.faces.stored l in let a = F.adjacent-rest k.0 k.1.0 in
        let b = keeps _ (W.ranges.adjacent< l) (omega (arith, k.0)) in cc) f h;
    three = every (λ x. 0 < L'.face x → L'.next (L'.next x) ≡ L'.prev x) (e ∷ n ∷ []) (λ _. cc) (λ f. absurd (omega arith)) (λ _. cc, (λ _. cc, tt))
        (λ x h k f. let g = inner-was h k f in let a = keeps x h g in let d = W.links.face-next h in
        let b = keeps _ (W.ranges.next< h) (omega arith) in let c = W.faces.three h g in cc);
    apart = every (λ x. L'.next x ≢ x) (p ∷ n ∷ []) (omega arith) (omega arith) (omega arith, (omega arith, tt))
        (λ x h k. rw (next-old h k.0 k.1.0) (W.faces.apart h));
    inner = every (λ x. 0 < L'.face x → (x ≡ L'.adjacent (L'.face x)) ⊎ (x ≡ L'.next (L'.adjacent (L'.face x))) ⊎ (x ≡ L'.prev (L'.adjacent (L'.face x)))) (e ∷ n ∷ [])
        (λ _. inl (cc)) (λ f. absurd (omega arith)) (λ _. inr (inl (cc)), (λ _. inr (inr (cc)), tt))
        (λ x h k f. let g = inner-was h k f in let a = keeps x h g in let l = W.ranges.face< h in let s = W.faces.stored l in
        let b = F.adjacent-rest {f = L.face x} (omega arith) (omega arith) in let c = keeps _ (W.ranges.adjacent< l) (omega arith) in
        ⊎_elim (λ w. inl (cc)) (⊎_elim (λ w. inr (inl (cc))) (λ w. inr (inr (cc)))) (W.faces.inner h g));
    outer = λ {d = x} {e = y} h k a b. let v = from h a in let w = from k b in rw (v.3, w.3) at
        (reach-by (In C) past (λ z l. W.ranges.next< l) walks v.1 (W.faces.outer v.1 w.1 v.2 w.2));
  }

  turns : (x : ℕ) → In C x → Reach (turn L') x (turn L x)
  turns = each {P = λ x. In C x → Reach (turn L') x (turn L x)} (e ∷ q ∷ []) (λ _. reach-two (cc), (λ _. reach-two (cc), tt))
      (λ x k h. reach-one (cc (prev-old h k.0 k.1.0)))

  abbrev Old : (ℕ → ℕ → Type 0) → ℕ → Type 0
  Old R x = (y : ℕ) × In C y × (L.origin y ≡ L'.origin x) × R x y

  to-old : {x : ℕ} → In C' x → Old (λ x y. Reach (turn L') x y) x
  to-old = every (Old (λ x y. Reach (turn L') x y)) [] (rev n, rev-in C A.in-n, cc, reach-one (cc)) (rev p, rev-in C A.in_p, cc, reach-one (cc)) tt
      (λ x h k. (x, h, sym (far x h).0, reach-at refl))

  from_old : {x : ℕ} → In C' x → Old (λ x y. Reach (turn L') y x) x
  from_old = every (Old (λ x y. Reach (turn L') y x)) [] (q, A.in-q, cc, reach-one (cc)) (e, A.in_e, cc, reach-one (cc)) tt
      (λ x h k. (x, h, sym (far x h).0, reach-at refl))

  about : Vertices C' L'
  about = record {
    based = λ {v} h. let l : v < C.vertices = omega arith in let a = F.out-rest v in let b = far (L.out v) (W.ranges.out< l) in cc (W.about.based l);
    round = λ {d = x} {e = y} h k a. let v = to-old h in let w = from_old k in
        reach-trans v.3 (reach-trans (link-still-round W L' turns v.1 w.1 (v.2 ∙ a ∙ sym w.2)) w.3);
  }

  pub between-keeps : LinkRules C' L'
  between-keeps = record { ranges = ranges; links = links; faces = faces; about = about; euler = omega (arith, W.euler); some = omega arith }

  -- the two rules that a line breaks, where they held
  pub between-wide : Wide C L → Wide C' L'
  between-wide w x h z = every (λ x. L'.face x ≡ 0 → L'.next (L'.next x) ≢ x) (p ∷ []) (λ z. absurd (omega arith))
      (λ z m. let a = next-old A.in-q (λ k. four (sym k)) (λ k. link-n-q W A (sym k)) in (old (W.ranges.next< A.in-q)).1 (cc))
      (λ z m. four (cc), tt)
      (λ x h k z m. let r = outer-was h z in let a = next-old h k.0 r.1.1.0 in let c = W.links.prev-next h in
      each {P = λ y. L.next x ≡ y → L'.next y ≢ x} (p ∷ []) (λ _ m. (old h).1 (cc), tt)
      (λ y l s m. let b : L'.next (L.next x) ≡ L.next (L.next x) = next-old (W.ranges.next< h) (λ t. l.0 (cc)) (λ t. r.1.0 (cc)) in
      w x h r.0 (cc)) (L.next x) refl (cc)) h z

  pub between-sided : Sided C L → Sided C' L'
  between-sided s x h z = every (λ x. L'.face x ≡ 0 → 0 < L'.face (rev x)) []
      (λ z. absurd (omega arith)) (λ z. rw (F.o-i, F.face-i) W.some) tt
      (λ x h k z. let j = s x h (outer-was h z).0 in rw (keeps _ (rev-in C h) j).face j) h z

  pub between-frame : SingleFaceFrame C C' L L' p e n q i o
  between-frame = let ne' = next-e' in let oe = far e A.in_e in let on = far n A.in-n in record {
    ends = λ {x} h. far x h;
    inner = keeps;
    others = λ {f} z l. kept-face W keeps z l (F.adjacent-rest (λ k. omega arith) (λ k. omega arith));
    stored-new = F.adjacent-i;
    corners-new = record { first = cc; second = cc; third = cc };
    stored-outer = F.adjacent-o;
    outer-o = F.face-o;
    origin-o = F.origin-o;
    end-o = cc;
    next-p = F.next-p;
    next-o = F.next-o;
    prev-o = F.prev-o;
    prev-q = F.prev-q;
    outer-rest = λ h z a b. face-old h a b ∙ z;
    next-rest = next-old;
    prev-rest = prev-old;
    was = λ {x} h z. every (λ x. L'.face x ≡ 0 → (x ≡ o) ⊎ (In C x × (L.face x ≡ 0) × (x ≢ e) × (x ≢ n))) []
        (λ z. absurd (omega (arith, W.some))) (λ z. inl refl) tt (λ x h k z. let w = outer-was h z in inr (h, w.0, w.1.0, w.1.1.0)) h z;
  }
