-- The flip of an inner edge between two different faces keeps the rules. Assumes nothing.
use Rattle.std.specs.Prelude.{ℕ, ◌+◌, ◌*◌, ◌<◌, ◌≡◌, refl, ◌≢◌, ◌⊎◌, List, [], ◌∷◌}
use Rattle.std.proofs.Common.{arith, sym, ◌∙◌, ⊎_elim, inl, inr}
use Rattle.mesh.specs.declared.Counts.{Counts}
use Rattle.mesh.specs.Mesh.{Links, In, to, turn}
use Rattle.mesh.specs.Operations.{flip_between, flip_cw}
use Rattle.mesh.specs.Wf.{Wf, Ranges, Linked, Faces, Vertices}
use Rattle.mesh.specs.Cases.{given}
use Rattle.mesh.specs.Frame.{Keeps, SameFace, SameBoundary, Corners}
use Rattle.mesh.specs.Triangle.{Triangle, triangle, same-face, rev-in}
use Rattle.mesh.specs.Flipped.{Flipped}
use Rattle.sums.proofs.Cases.{All, None, each}
use Rattle.sums.specs.Half.{rev}
use Rattle.sums.proofs.HalfLaws.{rev-rev, rev-even, rev-odd}
use Rattle.sums.specs.Put.{put}
use Rattle.sums.proofs.PutLaws.{put_same, put_other}
use Rattle.sums.proofs.IterateLaws.{Reach, reach-at, reach-one, reach-two, reach-trans, reach-by}

-- what a flip of the edge u asks: an inner edge between two faces. (`Examples` has a mesh within the rules that has an
-- inner edge with one face on both sides; where every inner face turns strictly left there is none, by `two-faces`.)
pub record Flippable (C : Counts) (L : Links) (u : ℕ) : Type 0 where
  pub edge : u < C.edges
  pub inner-left : 0 < L.face (2 * u)
  pub inner-right : 0 < L.face (2 * u + 1)
  pub differ : L.face (2 * u) ≢ L.face (2 * u + 1)

-- What a flip leaves, and the corners of the two faces after it: c is the vertex across from the edge ab in the face of e, d in that of t.
pub record FlipFrame (C : Counts) (L L' : Links) (e t a b c d : ℕ) : Type 0 where
  pub ends : {x : ℕ} → x ≢ e → x ≢ t → (L'.origin x ≡ L.origin x) × (to L' x ≡ to L x)
  pub other : {x : ℕ} → L.face x ≢ L.face e → L.face x ≢ L.face t → Keeps L L' x
  pub boundary : SameBoundary C L L'
  pub others : {f : ℕ} → f < C.faces → f ≢ L.face e → f ≢ L.face t → SameFace L L' f
  pub corners-e : Corners L' (L.face e) c d b
  pub corners-t : Corners L' (L.face t) d c a

module _ {C : Counts} {L L' : Links} {e en ep t tn tp : ℕ} (W : Wf C L) (A : Triangle C L e en ep)
    (B : Triangle C L t tn tp) (F : Flipped L L' e en ep t tn tp)
    (fi : 0 < L.face e) (gi : 0 < L.face t) (fg : L.face e ≢ L.face t) where
  abbrev six : List ℕ
  six = e ∷ en ∷ ep ∷ t ∷ tn ∷ tp ∷ []

  next-out : {x : ℕ} → In C x → None x six → None (L.next x) six
  next-out {x} h o =
      let q = W.links.prev-next h in
      (λ p. o.1.1.0 (cc), (λ p. o.0 (cc), (λ p. o.1.0 (cc), (λ p. o.1.1.1.1.1.0 (cc), (λ p. o.1.1.1.0 (cc), (λ p. o.1.1.1.1.0 (cc), tt))))))

  prev-out : {x : ℕ} → In C x → None x six → None (L.prev x) six
  prev-out {x} h o =
      let q = W.links.next-prev h in
      (λ p. o.1.0 (cc), (λ p. o.1.1.0 (cc), (λ p. o.0 (cc), (λ p. o.1.1.1.1.0 (cc), (λ p. o.1.1.1.1.1.0 (cc), (λ p. o.1.1.1.0 (cc), tt))))))

  every : (P : ℕ → Type 0) → All P six → ((x : ℕ) → In C x → None x six → P x) → {x : ℕ} → In C x → P x
  every P a f {x} h = each {P = λ x. In C x → P x} six (given P (In C) six a) (λ x o h. f x h o) x h

  -- x is none of e and t: then neither is its other half, and both keep their origins
  abbrev Far : ℕ → Type 0
  Far x = (x ≢ e) × (x ≢ t)

  far-rev : {x : ℕ} → Far x → Far (rev x)
  far-rev {x} f = let r = rev-rev x in (λ p. f.1 (cc), λ p. f.0 (cc))

  far-en : Far en
  far-en = (λ p. W.faces.apart A.in-a (cc), λ p. fg (cc))

  far-ep : Far ep
  far-ep = (λ p. W.faces.apart A.in-a (cc), λ p. fg (cc))

  far-tn : Far tn
  far-tn = (λ p. fg (cc), λ p. W.faces.apart B.in-a (cc))

  far-tp : Far tp
  far-tp = (λ p. fg (cc), λ p. W.faces.apart B.in-a (cc))

  far : {x : ℕ} → None x six → Far x
  far o = (o.0, o.1.1.1.0)

  keep : {x : ℕ} → Far x → (L'.origin x ≡ L.origin x) × (L'.origin (rev x) ≡ L.origin (rev x))
  keep f = let g = far-rev f in (F.origin-rest f.0 f.1, F.origin-rest g.0 g.1)

  links : Linked C L'
  links = let k₁ = keep far-en in let k₂ = keep far-ep in let k₃ = keep far-tn in let k₄ = keep far-tp in record {
    prev-next = every (λ x. L'.prev (L'.next x) ≡ x) (cc, (cc, (cc, (cc, (cc, (cc, tt))))))
        (λ x h o. let p = F.next-rest o in let q = F.prev-rest (next-out h o) in let r = W.links.prev-next h in cc);
    next-prev = every (λ x. L'.next (L'.prev x) ≡ x) (cc, (cc, (cc, (cc, (cc, (cc, tt))))))
        (λ x h o. let p = F.prev-rest o in let q = F.next-rest (prev-out h o) in let r = W.links.next-prev h in cc);
    face-next = every (λ x. L'.face (L'.next x) ≡ L'.face x) (cc, (cc, (cc, (cc, (cc, (cc, tt))))))
        (λ x h o. let p = F.next-rest o in let q = F.face-rest o in let s = F.face-rest (next-out h o) in let r = W.links.face-next h in cc);
    origin-next = every (λ x. L'.origin (L'.next x) ≡ L'.origin (rev x)) (cc, (cc, (cc, (cc, (cc, (cc, tt))))))
        (λ x h o. let p = F.next-rest o in let q = keep (far o) in let s = keep (far (next-out h o)) in let r = W.links.origin-next h in cc);
  }

  -- the out edge of a vertex, by the vertex
  out-is : (v : ℕ) → ((v ≡ L.origin t) × (L'.out v ≡ en)) ⊎ ((v ≡ L.origin e) × (L'.out v ≡ tn))
      ⊎ ((v ≢ L.origin e) × (v ≢ L.origin t) × (L'.out v ≡ L.out v))
  out-is v = each {P = Is} (L.origin t ∷ []) (inl (refl, F.out-t), tt)
      (λ v o. each {P = λ v. v ≢ L.origin t → Is v} (L.origin e ∷ []) (λ n. inr (inl (refl, F.out-e n)), tt)
      (λ v k n. inr (inr (k.0, n, F.out-rest k.0 n))) v o.0) v
    where
      Is : ℕ → Type 0
      Is v = ((v ≡ L.origin t) × (L'.out v ≡ en)) ⊎ ((v ≡ L.origin e) × (L'.out v ≡ tn))
          ⊎ ((v ≢ L.origin e) × (v ≢ L.origin t) × (L'.out v ≡ L.out v))

  ranges : Ranges C L'
  ranges = let k₁ = keep far-en in let k₂ = keep far-ep in let k₃ = keep far-tn in let k₄ = keep far-tp in
      let o₁ = W.ranges.origin< A.in_b in let o₂ = W.ranges.origin< A.in_c in
      let o₃ = W.ranges.origin< B.in_b in let o₄ = W.ranges.origin< B.in_c in
      let f₁ = W.ranges.face< A.in-a in let f₂ = W.ranges.face< B.in-a in record {
        next< = every (λ x. In C (L'.next x)) (omega arith, (omega arith, (omega arith, (omega arith, (omega arith, (omega arith, tt))))))
            (λ x h o. let p = F.next-rest o in let q = W.ranges.next< h in omega arith);
        prev< = every (λ x. In C (L'.prev x)) (omega arith, (omega arith, (omega arith, (omega arith, (omega arith, (omega arith, tt))))))
            (λ x h o. let p = F.prev-rest o in let q = W.ranges.prev< h in omega arith);
        face< = every (λ x. L'.face x < C.faces) (omega arith, (omega arith, (omega arith, (omega arith, (omega arith, (omega arith, tt))))))
            (λ x h o. let p = F.face-rest o in let q = W.ranges.face< h in omega arith);
        origin< = every (λ x. L'.origin x < C.vertices) (omega arith, (omega arith, (omega arith, (omega arith, (omega arith, (omega arith, tt))))))
            (λ x h o. let p = keep (far o) in let q = W.ranges.origin< h in omega arith);
        adjacent< = λ {f} h. each {P = λ f. f < C.faces → In C (L'.adjacent f)} (L.face e ∷ L.face t ∷ []) (λ _. omega arith, (λ _. omega arith, tt))
            (λ f o h. let p = F.adjacent-rest o.0 o.1.0 in let q = W.ranges.adjacent< h in omega arith) f (omega arith);
        out< = λ {v} h. ⊎_elim (λ w. omega arith) (⊎_elim (λ w. omega arith)
            (λ w. let q : In C (L.out v) = W.ranges.out< (omega arith) in omega arith)) (out-is v);
      }

  out-by-face : {x : ℕ} → L.face x ≢ L.face e → L.face x ≢ L.face t → None x six
  out-by-face n m = (λ p. n (cc), (λ p. n (cc), (λ p. n (cc), (λ p. m (cc), (λ p. m (cc), (λ p. m (cc), tt))))))

  face-out : {x : ℕ} → In C x → None x six → (L.face e ≢ L.face x) × (L.face t ≢ L.face x)
  face-out {x} h o = (
    λ p. ⊎_elim o.0 (⊎_elim (λ q. o.1.0 (cc)) (λ q. o.1.1.0 (cc))) (same-face W A.in-a h fi p),
    λ p. ⊎_elim o.1.1.1.0 (⊎_elim (λ q. o.1.1.1.1.0 (cc)) (λ q. o.1.1.1.1.1.0 (cc))) (same-face W B.in-a h gi p),
  )

  -- an outer half-edge was one before
  was-outer : {x : ℕ} → In C x → L'.face x ≡ 0 → (L.face x ≡ 0) × None x six
  was-outer {x} h z = every (λ x. L'.face x ≡ 0 → (L.face x ≡ 0) × None x six)
      (λ z. absurd (omega arith), (λ z. absurd (omega arith), (λ z. absurd (omega arith), (λ z. absurd (omega arith), (λ z. absurd (omega arith), (λ z. absurd (omega arith), tt))))))
      (λ x h o z. (cc (F.face-rest o), o)) h z

  stays-inner : {x : ℕ} → In C x → 0 < L.face x → 0 < L'.face x
  stays-inner {x} h z = every (λ x. 0 < L.face x → 0 < L'.face x)
      (λ z. omega arith, (λ z. omega arith, (λ z. omega arith, (λ z. omega arith, (λ z. omega arith, (λ z. omega arith, tt))))))
      (λ x h o z. rw (F.face-rest o) z) h z

  faces : Faces C L'
  faces = record {
    stored = λ {f} h. each {P = λ f. f < C.faces → L'.face (L'.adjacent f) ≡ f} (L.face e ∷ L.face t ∷ []) (λ _. cc, (λ _. cc, tt))
        (λ f o h. let s = W.faces.stored h in let p = F.adjacent-rest o.0 o.1.0 in
        let o' : None (L.adjacent f) six = out-by-face (λ k. o.0 (cc)) (λ k. o.1.0 (cc)) in cc (F.face-rest o')) f (omega arith);
    three = every (λ x. 0 < L'.face x → L'.next (L'.next x) ≡ L'.prev x) (λ _. cc, (λ _. cc, (λ _. cc, (λ _. cc, (λ _. cc, (λ _. cc, tt))))))
        (λ x h o z. let p = F.next-rest o in let q = F.next-rest (next-out h o) in let r = F.prev-rest o in
        let g = F.face-rest o in let s = W.faces.three h (omega arith) in cc);
    apart = every (λ x. L'.next x ≢ x)
        (λ p. fg (cc), (λ p. W.faces.apart A.in-a (cc), (λ p. fg (cc), (λ p. fg (cc), (λ p. W.faces.apart B.in-a (cc), (λ p. fg (cc), tt))))))
        (λ x h o. rw (F.next-rest o) (W.faces.apart h));
    inner = every (λ x. 0 < L'.face x → (x ≡ L'.adjacent (L'.face x)) ⊎ (x ≡ L'.next (L'.adjacent (L'.face x))) ⊎ (x ≡ L'.prev (L'.adjacent (L'.face x))))
        (λ _. inl (cc), (λ _. inr (inr (cc)), (λ _. inr (inl (cc)), (λ _. inl (cc), (λ _. inr (inr (cc)), (λ _. inr (inl (cc)), tt))))))
        (λ x h o z. let g = F.face-rest o in let n = face-out h o in let s = W.faces.stored (W.ranges.face< h) in
        let a = F.adjacent-rest (λ k. n.0 (sym k)) (λ k. n.1 (sym k)) in
        let o' : None (L.adjacent (L.face x)) six = out-by-face (λ k. n.0 (cc)) (λ k. n.1 (cc)) in
        let p = F.next-rest o' in let q = F.prev-rest o' in
        ⊎_elim (λ w. inl (cc)) (⊎_elim (λ w. inr (inl (cc))) (λ w. inr (inr (cc)))) (W.faces.inner h (omega arith)));
    outer = λ {d = x} {e = y} h k p q. reach-by (λ z. In C z × L.face z ≡ 0) (λ z. z)
        (λ z w. (W.ranges.next< w.0, W.links.face-next w.0 ∙ w.1))
        (λ z w. reach-one (F.next-rest (out-by-face (λ k. omega arith) (λ k. omega arith))))
        (h, (was-outer h p).0) (W.faces.outer h k (was-outer h p).0 (was-outer k q).0);
    wide = λ {e = x} h p r. let w = was-outer h p in W.faces.wide h w.0 (cc (F.next-rest w.1, F.next-rest (next-out h w.1)));
    side = λ {e = x} h p. stays-inner (rev-in C h) (W.faces.side h (was-outer h p).0);
  }

  -- the turn about a vertex, past e and t
  past : ℕ → ℕ
  past = put (put (λ x. x) t (turn L t)) e (turn L e)

  past-e : past e ≡ turn L e
  unfolding past
  past-e = put_same _ e _

  past-t : past t ≡ turn L t
  unfolding past
  past-t = put_other _ e _ t (λ p. fg (cc)) ∙ put_same _ t _

  past-rest : {x : ℕ} → Far x → past x ≡ x
  unfolding past
  past-rest {x} f = put_other _ e _ x f.0 ∙ put_other _ t _ x f.1

  -- neither a half-edge that is not e or t nor its other half is turned past
  past-both : {x : ℕ} → Far x → (past x ≡ x) × (past (rev x) ≡ rev x)
  past-both f = (past-rest f, past-rest (far-rev f))

  turns : (x : ℕ) → In C x → Reach (turn L') (past x) (past (turn L x))
  turns = let p₁ = past-e in let p₂ = past-t in
      let k₁ = past-both far-en in
      let k₂ = past-both far-ep in
      let k₃ = past-both far-tn in
      let k₄ = past-both far-tp in
      each {P = λ x. In C x → Reach (turn L') (past x) (past (turn L x))} six
      (λ _. reach-at (cc), (λ _. reach-one (cc), (λ _. reach-two (cc), (λ _. reach-at (cc), (λ _. reach-one (cc), (λ _. reach-two (cc), tt))))))
      (λ x o h. let k = past-rest (far o) in let q = past-both (far (prev-out h o)) in
      reach-one (cc (F.prev-rest o)))

  -- what kept its origin is met as before
  kept-round : {x y : ℕ} → In C x → In C y → Far x → Far y → L.origin x ≡ L.origin y → Reach (turn L') x y
  kept-round h k f g p = rw (past-rest f, past-rest g) at
      (reach-by (In C) past (λ z w. rev-in C (W.ranges.prev< w)) turns h (W.about.round h k p))

  -- each half-edge turns to one that kept its origin, and is met from one
  abbrev Kept : (ℕ → ℕ → Type 0) → ℕ → Type 0
  Kept R x = (y : ℕ) × In C y × Far y × (L.origin y ≡ L'.origin x) × R x y

  to-kept : (x : ℕ) → In C x → Kept (λ x y. Reach (turn L') x y) x
  to-kept = each (e ∷ t ∷ []) (
    λ _. (rev en, rev-in C A.in_b, far-rev far-en, cc, reach-one (cc)),
    (λ _. (rev tn, rev-in C B.in_b, far-rev far-tn, cc, reach-one (cc)), tt),
  )
      (λ x o h. let f : Far x = (o.0, o.1.0) in (x, h, f, sym (keep f).0, reach-at refl))

  from-kept : (x : ℕ) → In C x → Kept (λ x y. Reach (turn L') y x) x
  from-kept = each (e ∷ t ∷ [])
      (λ _. (ep, A.in_c, far-ep, cc, reach-one (cc)), (λ _. (tp, B.in_c, far-tp, cc, reach-one (cc)), tt))
      (λ x o h. let f : Far x = (o.0, o.1.0) in (x, h, f, sym (keep f).0, reach-at refl))

  about : Vertices C L'
  about = let k₁ = keep far-en in let k₃ = keep far-tn in record {
    based = λ {v} h. ⊎_elim (λ w. cc) (⊎_elim (λ w. cc)
        (λ w. let s : L.origin (L.out v) ≡ v = W.about.based (omega arith) in
        let q : L'.origin (L.out v) ≡ L.origin (L.out v) = F.origin-rest (λ k. w.0 (cc)) (λ k. w.1 (cc)) in cc)) (out-is v);
    round = λ {d = x} {e = y} h k p. let a = to-kept x h in let b = from-kept y k in
        reach-trans a.4 (reach-trans (kept-round a.1 b.1 a.2 b.2 (a.3 ∙ p ∙ sym b.3)) b.4);
  }

  pub flipped-keeps : Wf C L'
  flipped-keeps = record { ranges = ranges; links = links; faces = faces; about = about; euler = W.euler; some = W.some }

  -- a half-edge of another face
  other : {x : ℕ} → L.face x ≢ L.face e → L.face x ≢ L.face t → Keeps L L' x
  other n m = let o = out-by-face n m in let k = keep (far o) in
      record { next = F.next-rest o; prev = F.prev-rest o; face = F.face-rest o; origin = k.0; end = k.1 }

  outer : {x : ℕ} → L.face x ≡ 0 → Keeps L L' x
  outer z = other (λ k. omega arith) (λ k. omega arith)

  pub flipped-frame : FlipFrame C L L' e t (L.origin e) (L.origin t) (L.origin ep) (L.origin tp)
  flipped-frame = let k₁ = keep far-en in let k₂ = keep far-ep in let k₃ = keep far-tn in let k₄ = keep far-tp in record {
    ends = λ n m. keep (n, m);
    other = other;
    boundary = record {
      keeps = λ _ z. outer z;
      was = λ h z. (was-outer h z).0;
      adjacent = F.adjacent-rest (λ k. omega arith) (λ k. omega arith);
    };
    others = λ {f} h n m. let s = W.faces.stored h in
        let a = L.adjacent f in let k = W.ranges.adjacent< h in
        let v = W.links.face-next k in let w = W.links.face-next (W.ranges.prev< k) in let r = W.links.next-prev k in
        record {
          adjacent = F.adjacent-rest n m;
          first = other (λ c. n (cc)) (λ c. m (cc));
          second = other (λ c. n (cc)) (λ c. m (cc));
          third = other (λ c. n (cc)) (λ c. m (cc));
        };
    corners-e = record { first = cc; second = cc; third = cc };
    corners-t = record { first = cc; second = cc; third = cc };
  }
