-- Laws of specs/TurnLaws.antt.
use Rattle.std.specs.Prelude.{true, false, List, [], ◌∷◌, ◌≢◌, ◌≡◌, refl, ℕ, ◌+◌, ◌*◌, ◌/◌, ◌<◌, ℤ, pos, ◌<ℤ◌, ◌≤ℤ◌}
use Rattle.std.proofs.lemmas.Bool.{false≢true}
use Rattle.std.proofs.Common.{sym, ◌∙◌, ap, subst, arith}
use Rattle.std.proofs.Math.Decide.{ℕ_discrete}
use Rattle.std.proofs.Math.Dec.{not_T}
use Rattle.std.specs.Int.Signed.{lt_z, lt_z_yes, lt_z_no, clash_ℤ}
use Rattle.math.specs.declared.Point.{Point}
use Rattle.math.specs.Determinant.{incircle}
use Rattle.mesh.specs.declared.Counts.{Counts}
use Rattle.mesh.specs.Mesh.{Links, In, to}
use Rattle.mesh.specs.Area.{circle_at}
use Rattle.mesh.specs.Circle.{breaks_circle}
use Rattle.mesh.specs.CircleLaws.{Breaks}
use Rattle.mesh.proofs.CircleLawsFacts.{breaks, breaks-test, breaks-flippable, breaks-good}
use Rattle.mesh.specs.Flip.{Flippable}
use Rattle.mesh.proofs.FlipLaws.{flip_is, sides}
use Rattle.mesh.specs.Flipped.{Flipped, Beside}
use Rattle.mesh.specs.Good.{Good}
use Rattle.mesh.proofs.HeightLawsFacts.{circle-rev, even-half, circle-half}
use Rattle.mesh.proofs.LeftLaws.{sides-differ, faces-differ}
use Rattle.mesh.specs.Operations.{flip_cw}
use Rattle.mesh.specs.Triangle.{Triangle, triangle, rev-in}
use Rattle.mesh.specs.Wf.{Wf}
use Rattle.sums.proofs.Cases.{All, None, Distinct, all_map}
use Rattle.sums.specs.Half.{rev}
use Rattle.sums.proofs.HalfLaws.{rev-rev, rev-even, rev-odd, rev-edge}
use Rattle.skipped_settled.specs.SettledBut.{KeepsCircle, Across, SettledBut}
use Rattle.skipped_settled.specs.TurnLaws.{SameSide, FlippedAt}

-- ---- the rule at one half-edge
module _ (L : Links) (p : ℕ → Point) (e : ℕ) where
  -- by the test of its edge
  pub unbroken-keeps : breaks_circle L p (e / 2) ≡ false → KeepsCircle L p e
  unbroken-keeps b = record {
    outside = λ i j.
        let h = even-half (λ x. 0 < L.face x) e i j in
        let k = rw (rev-even (e / 2)) at (even-half (λ x. 0 < L.face (rev x)) e j (rw (rev-rev e) i)) in
        subst (λ (z : ℤ). z ≤ℤ pos 0) (circle-half L p e)
        (lt_z_no (not_T (lt_z (pos 0) (circle_at L p (2 * (e / 2)))) (λ t. false≢true (sym b ∙ breaks-test L p (e / 2) (record { inner-left = h; inner-right = k; inside = lt_z_yes t })))));
  }

  -- from the other side
  pub keeps-rev : KeepsCircle L p (rev e) → KeepsCircle L p e
  keeps-rev K = record {
    outside = λ i j. subst (λ (z : ℤ). z ≤ℤ pos 0) (circle-rev L p e) (K.outside j (rw (rev-rev e) i));
  }

pub same-keeps : {L L' : Links} {p p' : ℕ → Point} {e : ℕ} → SameSide L L' e → SameSide L L' (rev e)
    → p' (L.origin e) ≡ p (L.origin e) → p' (to L e) ≡ p (to L e)
    → p' (L.origin (L.prev e)) ≡ p (L.origin (L.prev e)) → p' (L.origin (L.prev (rev e))) ≡ p (L.origin (L.prev (rev e)))
    → KeepsCircle L p e → KeepsCircle L' p' e
unfolding circle_at
same-keeps {L} {L'} {p} {p'} {e} S R a b c d K = record {
  outside = λ i j.
      subst (λ (z : ℤ). z ≤ℤ pos 0)
      (sym (rw (S.origin, R.origin, S.far i, R.far j, a, b, c, d) refl)) (K.outside (S.inner i) (R.inner j));
}

flipped-first : {L L' : Links} {e en ep t tn tp : ℕ} → Flipped L L' e en ep t tn tp → FlippedAt L L' e en ep t tn tp
flipped-first F = record {
  t-e = F.t-e;
  e-t = F.e-t;
  next-e = F.next-e;
  prev-tp = F.prev-tp;
  prev-tn = F.prev-tn;
  face-e = F.face-e;
  origin-e = F.origin-e;
  prev-rest = F.prev-rest;
  face-rest = F.face-rest;
  origin-rest = F.origin-rest;
}

flipped-second : {L L' : Links} {e en ep t tn tp : ℕ} → Flipped L L' e en ep t tn tp → FlippedAt L L' t tn tp e en ep
flipped-second {e = e} {en} {ep} {t} {tn} {tp} F = record {
  t-e = F.e-t;
  e-t = F.t-e;
  next-e = F.next-t;
  prev-tp = F.prev-ep;
  prev-tn = F.prev-en;
  face-e = F.face-t;
  origin-e = F.origin-t;
  prev-rest = λ o. F.prev-rest (other o);
  face-rest = λ o. F.face-rest (other o);
  origin-rest = λ n m. F.origin-rest m n;
}
  where
    other : {x : ℕ} → Beside t tn tp e en ep x → Beside e en ep t tn tp x
    other o = (o.1.1.1.0, (o.1.1.1.1.0, (o.1.1.1.1.1.0, (o.0, (o.1.0, (o.1.1.0, tt))))))

-- what holds of both halves of the edge of e holds of e
either-half : (P : ℕ → Type 0) (e : ℕ) → P (2 * (e / 2)) → P (2 * (e / 2) + 1) → P e
either-half P e x y = go (ℕ_discrete (2 * (e / 2)) e)
  where
    go : Dec (2 * (e / 2) ≡ e) → P e
    go (yes q) = subst P q x
    go (no n) = let q : 2 * (e / 2) + 1 ≡ e = omega arith in subst P q y

-- of the edge of any half-edge e
flip-at : {C : Counts} {L : Links} → Wf C L → (e : ℕ) → Flippable C L (e / 2)
    → FlippedAt L (flip_cw L (e / 2)) e (L.next e) (L.prev e) (rev e) (L.next (rev e)) (L.prev (rev e))
flip-at {C} {L} W e B =
    let F = flip_is W (e / 2) B in
    either-half (λ x. At x (rev x)) e (rw (rev-even (e / 2)) (flipped-first F)) (rw (rev-odd (e / 2)) (flipped-second F))
  where
    At : ℕ → ℕ → Type 0
    At x y = FlippedAt L (flip_cw L (e / 2)) x (L.next x) (L.prev x) y (L.next y) (L.prev y)

-- ---- the two ways of a turn that is not refused
module _ {C : Counts} {L : Links} {p : ℕ → Point} {v e : ℕ} {l : List ℕ} (S : SettledBut C L p v (e ∷ l)) where
  -- the edge keeps the rule
  pub kept-settled : breaks_circle L p (e / 2) ≡ false → SettledBut C L p v l
  kept-settled b = record {
    good = S.good;
    across = S.across.1;
    distinct = S.distinct.1;
    keeps = λ {x} h n m o k. at (ℕ_discrete x e) (ℕ_discrete (rev x) e) h n m o k;
  }
    where
      at : {x : ℕ} → Dec (x ≡ e) → Dec (rev x ≡ e) → In C x → L.origin x ≢ v → to L x ≢ v → None x l → None (rev x) l → KeepsCircle L p x
      at {x} (yes q) d h n m o k = subst (KeepsCircle L p) (sym q) (unbroken-keeps L p e b)
      at {x} (no c) (yes q) h n m o k = keeps-rev L p x (subst (KeepsCircle L p) (sym q) (unbroken-keeps L p e b))
      at {x} (no c) (no d) h n m o k = S.keeps h n m (c, o) (d, k)

-- the flip
module _ {C : Counts} {L L' : Links} {p : ℕ → Point} {v e en ep t tn tp : ℕ} {l : List ℕ} (S : SettledBut C L p v (e ∷ l))
    (A : Triangle C L e en ep) (B : Triangle C L t tn tp) (F : FlippedAt L L' e en ep t tn tp)
    (fg : L.face e ≢ L.face t) (G : Good C L' p) (ve : v ≢ L.origin e) (vt : v ≢ L.origin t) (vp : v ≢ L.origin tp) where
  W : Wf C L
  W = S.good.wf

  ep-v : L.origin ep ≡ v
  ep-v = let q = S.across.0.far in let r = A.prev-a in cc

  -- none of these is e or t
  far-ep : (ep ≢ e) × (ep ≢ t)
  far-ep = (λ q. W.faces.apart A.in_c (let n = A.next-c in cc), λ q. fg (let f = A.face-c in cc))

  far-en : (rev en ≢ e) × (rev en ≢ t)
  far-en = (
    λ q. fg (let r = rev-rev en in let s = F.t-e in let f = A.face-b in cc),
    λ q. W.faces.apart A.in-a (let r = rev-rev en in let s = F.e-t in let n = A.next-a in cc),
  )

  ep-at : L'.origin ep ≡ v
  ep-at = F.origin-rest far-ep.0 far-ep.1 ∙ ep-v

  en-at : L'.origin (rev en) ≡ v
  en-at = F.origin-rest far-en.0 far-en.1 ∙ A.to-b ∙ ep-v

  e-at : L'.origin e ≡ v
  e-at = F.origin-e ∙ ep-v

  -- a half-edge beside the six keeps its far vertex, and what else the rule asks
  same-far : {x : ℕ} → In C x → Beside e en ep t tn tp x → L'.origin (L'.prev x) ≡ L.origin (L.prev x)
  same-far {x} h o =
      ap L'.origin (F.prev-rest o)
      ∙ F.origin-rest (λ q. o.1.0 (let r = W.links.next-prev h in let n = A.next-a in cc))
      (λ q. o.1.1.1.1.0 (let r = W.links.next-prev h in let n = B.next-a in cc))

  same-side : {x : ℕ} → In C x → Beside e en ep t tn tp x → SameSide L L' x
  same-side h o = record { inner = λ i. rw (← F.face-rest o) i; origin = F.origin-rest o.0 o.1.1.1.0; far = λ _. same-far h o }

  -- the other half-edges of the list are beside the six
  beside : {y : ℕ} → e ≢ y → Across C L v y → Beside e en ep t tn tp y
  beside {y} n X = let a = X.far in (
    λ q. n (sym q),
    (
      λ q. ve (let b = A.prev-b in cc),
      (
        λ q. vt (let b = A.prev-c in let c = A.to-a in let d = F.t-e in cc),
        (
          λ q. vp (let b = B.prev-a in cc),
          (
            λ q. vt (let b = B.prev-b in cc),
            (λ q. ve (let b = B.prev-c in let c = B.to-a in let d = F.e-t in cc), tt),
          ),
        ),
      ),
    ),
  )

  listed : (m : List ℕ) → None e m → All (Across C L v) m → All (λ y. Beside e en ep t tn tp y × Across C L' v y) m
  listed [] n X = tt
  listed (y ∷ m) n X =
      let o = beside n.0 X.0 in
      ((o, record { used = X.0.used; far = same-far X.0.used o ∙ X.0.far }), listed m n.1 X.1)

  rest : All (λ y. Beside e en ep t tn tp y × Across C L' v y) l
  rest = listed l S.distinct.0 S.across.1

  pub flip-settled : SettledBut C L' p v (tp ∷ tn ∷ l)
  flip-settled = record {
    good = G;
    across = (
      record { used = B.in_c; far = ap L'.origin F.prev-tp ∙ e-at },
      (
        record { used = B.in_b; far = ap L'.origin F.prev-tn ∙ ep-at },
        all_map _ _ (λ y r. r.1) l rest,
      ),
    );
    distinct = (
      (λ q. W.faces.apart B.in_b (let n = B.next-b in cc), all_map _ _ (λ y r q. r.0.1.1.1.1.1.0 (sym q)) l rest),
      (all_map _ _ (λ y r q. r.0.1.1.1.1.0 (sym q)) l rest, S.distinct.1),
    );
    keeps = λ {x} h n m o k. other h n m o k;
  }
    where
      -- an edge that is not at v, nor pushed, is beside the six on both sides
      here : {x : ℕ} → L'.origin x ≢ v → to L' x ≢ v → None x (tp ∷ tn ∷ l) → Beside e en ep t tn tp x
      here {x} n m o = (
        λ q. n (ap L'.origin q ∙ e-at),
        (
          λ q. m (ap (λ (y : ℕ). L'.origin (rev y)) q ∙ en-at),
          (
            λ q. n (ap L'.origin q ∙ ep-at),
            (
              λ q. m (ap (λ (y : ℕ). L'.origin (rev y)) q ∙ ap L'.origin F.e-t ∙ e-at),
              (o.1.0, (o.0, tt)),
            ),
          ),
        ),
      )

      other : {x : ℕ} → In C x → L'.origin x ≢ v → to L' x ≢ v → None x (tp ∷ tn ∷ l) → None (rev x) (tp ∷ tn ∷ l) → KeepsCircle L' p x
      other {x} h n m o k =
          let b = here n m o in
          let c = here {x = rev x} m (λ q. n (ap L'.origin (sym (rev-rev x)) ∙ q)) k in
          let s = same-side h b in
          let r = same-side (rev-in C h) c in
          same-keeps s r refl refl refl refl
          (S.keeps h (λ q. n (s.origin ∙ q)) (λ q. m (r.origin ∙ q)) (b.0, o.1.1) (c.0, k.1.1))

-- ---- a flip where the edge breaks the rule, with what `legalize_edge` pushes
module _ {C : Counts} {L : Links} {p : ℕ → Point} {v e : ℕ} {l : List ℕ} (S : SettledBut C L p v (e ∷ l)) where
  pub turn-settled : breaks_circle L p (e / 2) ≡ true → SettledBut C (flip_cw L (e / 2)) p v (L.prev (rev e) ∷ L.next (rev e) ∷ l)
  turn-settled b =
      let G = S.good in
      let W = G.wf in
      let h = S.across.0.used in
      let u : e / 2 < C.edges = omega arith in
      let K = breaks L p (e / 2) b in
      let i = inner-here K in
      let j = inner-there K in
      let A = triangle W h i in
      let B = triangle W (rev-in C h) j in
      let F = flip-at W e (breaks-flippable G u K) in
      let H = breaks-good G u K in
      let f = S.across.0.far in
      flip-settled S A B F (faces-differ W G.turning h i) H
      (λ q. sides-differ W G.turning A.in_c (rw A.face-c i) (let n = A.next-c in cc))
      (λ q. sides-differ W G.turning A.in_b (rw A.face-b i) (let n = A.next-b in let o = A.to-a in cc))
      (λ q. sides-differ H.wf H.turning h (rw F.face-e i) (new-ends F A B q f))
    where
      inner-here : Breaks L p (e / 2) → 0 < L.face e
      inner-here K = either-half (λ x. 0 < L.face x) e K.inner-left K.inner-right

      inner-there : Breaks L p (e / 2) → 0 < L.face (rev e)
      inner-there K = either-half (λ x. 0 < L.face (rev x)) e (rw (rev-even (e / 2)) K.inner-right) (rw (rev-odd (e / 2)) K.inner-left)

      -- the ends of the new edge: v, and what was the far vertex over its other side
      new-ends : FlippedAt L (flip_cw L (e / 2)) e (L.next e) (L.prev e) (rev e) (L.next (rev e)) (L.prev (rev e))
          → Triangle C L e (L.next e) (L.prev e) → Triangle C L (rev e) (L.next (rev e)) (L.prev (rev e)) → v ≡ L.origin (L.prev (rev e))
          → L.origin (L.prev e) ≡ v
          → (flip_cw L (e / 2)).origin e ≡ (flip_cw L (e / 2)).origin ((flip_cw L (e / 2)).next e)
      new-ends F A B q f =
          F.origin-e ∙ f ∙ q
          ∙ sym (ap (flip_cw L (e / 2)).origin F.next-e
          ∙ F.origin-rest (λ r. faces-differ S.good.wf S.good.turning S.across.0.used (inner-here (breaks L p (e / 2) b)) (let g = B.face-c in cc))
          (λ r. S.good.wf.faces.apart B.in_c (let n = B.next-c in cc)))
