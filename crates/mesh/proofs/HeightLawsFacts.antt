-- Laws of specs/HeightLaws.antt.
use Rattle.std.specs.Prelude.{◌≡◌, refl, ◌≢◌, [], ◌∷◌, ℤ, pos, ◌+ℤ◌, ◌-ℤ◌, nat_abs, ◌<ℤ◌, ◌≤ℤ◌}
use Rattle.std.proofs.Common.{sym, ◌∙◌, subst}
use Rattle.std.proofs.Math.Path.{ap, ap₂}
use Prim.Native.Nat.{ℕ, suc, ◌+◌, ◌-◌, ◌*◌, ◌/◌, ◌<◌}
use Rattle.std.proofs.Math.Decide.{ℕ_discrete}
use native.Mathlib.Omega.{arith}
use Rattle.algebra.proofs.Order.{abs-falls}
use Rattle.algebra.specs.Ring.{◌⊕◌, ◌⊖◌}
use Rattle.algebra.proofs.RingLaws.{v0, v1, v2, v3, v4, v5, v6}
use Rattle.algebra.proofs.Sign.{eq-in, eq-by, ◌+⁰◌}
use Rattle.math.specs.declared.Point.{Point}
use Rattle.math.specs.Determinant.{orient2d, incircle, height}
use Rattle.math.proofs.Plane.{orient2d-next, incircle-other, height-next, height-not-negative, flip-area, flip-height, flip-left, flip-right}
use Rattle.sums.specs.Half.{rev}
use Rattle.sums.proofs.HalfLaws.{rev-rev, rev-even, rev-odd}
use Rattle.sums.specs.Sum.{sum}
use Rattle.sums.proofs.SumLaws.{sum-ext, sum-change-two, sum_nonneg}
use Rattle.mesh.specs.declared.Counts.{Counts}
use Rattle.mesh.specs.Mesh.{Links, In}
use Rattle.mesh.specs.Wf.{Wf}
use Rattle.mesh.specs.Frame.{Corners, SameFace}
use Rattle.mesh.specs.Operations.{flip_cw}
use Rattle.mesh.specs.Flip.{Flippable, FlipFrame}
use Rattle.mesh.proofs.FlipLaws.{flip-keeps, flip-frame}
use Rattle.mesh.specs.Area.{at_corners, over_faces, area_total, height_sum, circle_at, LeftTurning}
use Rattle.mesh.proofs.AreaCorners.{corners-at, face-at, kept_at}
use Rattle.mesh.specs.HeightLaws.{FaceAdded}

-- ---- heights are not negative
pub heights-nonneg : {C : Counts} {L : Links} {p : ℕ → Point} → LeftTurning C L p → pos 0 ≤ℤ height_sum C L p
unfolding over_faces
heights-nonneg {C} {L} {p} T = sum_nonneg (C.faces - 1) (λ f. at_corners height L p (L.adjacent (suc f)))
    (λ f l. height-not-negative _ _ _ (T.left (omega arith) (omega arith)))

-- ---- the circle determinant is the same over both halves of an edge
pub circle-rev : (L : Links) (p : ℕ → Point) (e : ℕ) → circle_at L p (rev e) ≡ circle_at L p e
unfolding circle_at
circle-rev L p e =
    ap (λ (x : ℕ). incircle (p (L.origin (rev e))) (p (L.origin x)) (p (L.origin (L.prev (rev e)))) (p (L.origin (L.prev x)))) (rev-rev e)
    ∙ sym (incircle-other (p (L.origin e)) (p (L.origin (rev e))) (p (L.origin (L.prev e))) (p (L.origin (L.prev (rev e)))))

-- the even half of the edge of e is e or its reverse
pub even-half : (P : ℕ → Type 0) (e : ℕ) → P e → P (rev e) → P (2 * (e / 2))
unfolding rev
even-half P e x y = go (ℕ_discrete (2 * (e / 2)) e)
  where
    odd : 2 * (e / 2) ≢ e → 2 * (e / 2) ≡ rev e
    odd n = omega arith

    go : Dec (2 * (e / 2) ≡ e) → P (2 * (e / 2))
    go (yes q) = rw q x
    go (no n) = rw (odd n) y

pub circle-half : (L : Links) (p : ℕ → Point) (e : ℕ) → circle_at L p (2 * (e / 2)) ≡ circle_at L p e
circle-half L p e = even-half (λ x. circle_at L p x ≡ circle_at L p e) e refl (circle-rev L p e)

module _ {C C' : Counts} {L L' : Links} {p p' : ℕ → Point} {a b c : ℕ} (W : Wf C L) (W' : Wf C' L')
    (A : FaceAdded C C' L L' p p' a b c) where
  new-at : (F : Point → Point → Point → ℤ) → at_corners F L' p' (L'.adjacent C.faces) ≡ F (p' a) (p' b) (p' c)
  new-at F = corners-at W' F p' W.some (let q = A.faces in omega arith) A.corners

  -- a sum over the inner faces has the new one's summand more
  pub added-over : (F : Point → Point → Point → ℤ) → over_faces F C' L' p' ≡ over_faces F C L p +ℤ F (p' a) (p' b) (p' c)
  unfolding over_faces sum
  added-over F =
      ap (λ (n : ℕ). sum n (λ f. at_corners F L' p' (L'.adjacent (suc f)))) (more C.faces W.some A.faces)
      ∙ ap₂ (λ (x y : ℤ). x +ℤ y)
      (sum-ext (C.faces - 1) (λ f l. kept_at W F p A.positions (omega arith) (omega arith) (A.others (omega arith) (omega arith))))
      (ap (λ (f : ℕ). at_corners F L' p' (L'.adjacent f)) (last C.faces W.some) ∙ new-at F)
    where
      more : (n : ℕ) → 0 < n → C'.faces ≡ n + 1 → C'.faces - 1 ≡ suc (n - 1)
      more n l q = omega arith

      last : (n : ℕ) → 0 < n → suc (n - 1) ≡ n
      last n l = omega arith

  pub added-area : area_total C' L' p' ≡ area_total C L p +ℤ orient2d (p' a) (p' b) (p' c)
  added-area = added-over orient2d

  pub added-left : LeftTurning C L p → pos 0 <ℤ orient2d (p' a) (p' b) (p' c) → LeftTurning C' L' p'
  added-left T h = record { left = λ {f} i l. go i l (ℕ_discrete f C.faces) }
    where
      go : {f : ℕ} → 0 < f → f < C'.faces → Dec (f ≡ C.faces) → pos 0 <ℤ at_corners orient2d L' p' (L'.adjacent f)
      go i l (yes q) = rw q (subst (λ (z : ℤ). pos 0 <ℤ z) (sym (new-at orient2d)) h)
      go {f} i l (no n) = let m : f < C.faces = (let q = A.faces in omega arith) in
          subst (λ (z : ℤ). pos 0 <ℤ z) (sym (kept_at W orient2d p A.positions i m (A.others i m))) (T.left i m)

-- ---- a flip
module _ {C : Counts} {L : Links} (W : Wf C L) {u : ℕ} (B : Flippable C L u) (p : ℕ → Point) where
  -- the triangles a b c and b a d of 2u and 2u + 1 become d b c and c a d
  abbrev a : Point
  a = p (L.origin (2 * u))

  abbrev b : Point
  b = p (L.origin (2 * u + 1))

  abbrev c : Point
  c = p (L.origin (L.prev (2 * u)))

  abbrev d : Point
  d = p (L.origin (L.prev (2 * u + 1)))

  e< : In C (2 * u)
  e< = let l = B.edge in omega arith

  t< : In C (2 * u + 1)
  t< = let l = B.edge in omega arith

  frame : FlipFrame C L (flip_cw L u) (2 * u) (2 * u + 1) (L.origin (2 * u)) (L.origin (2 * u + 1))
      (L.origin (L.prev (2 * u))) (L.origin (L.prev (2 * u + 1)))
  frame = flip-frame W u B

  module _ (F : Point → Point → Point → ℤ) (turn : (a b c : Point) → F a b c ≡ F b c a) where
    at-e : at_corners F L p (L.adjacent (L.face (2 * u))) ≡ F a b c
    at-e = face-at W F p turn e< B.inner-left ∙ ap (λ (x : ℕ). F a (p (L.origin x)) c) (rev-even u)

    at-t : at_corners F L p (L.adjacent (L.face (2 * u + 1))) ≡ F b a d
    at-t = face-at W F p turn t< B.inner-right ∙ ap (λ (x : ℕ). F b (p (L.origin x)) d) (rev-odd u)

    after-e : at_corners F (flip_cw L u) p ((flip_cw L u).adjacent (L.face (2 * u))) ≡ F d b c
    after-e = corners-at (flip-keeps W u B) F p B.inner-left (W.ranges.face< e<) frame.corners-e ∙ turn c d b

    after-t : at_corners F (flip_cw L u) p ((flip_cw L u).adjacent (L.face (2 * u + 1))) ≡ F c a d
    after-t = corners-at (flip-keeps W u B) F p B.inner-right (W.ranges.face< t<) frame.corners-t ∙ turn d c a

    -- a sum over the inner faces changes by those two
    pub flip-over : over_faces F C (flip_cw L u) p ≡ over_faces F C L p +ℤ ((F d b c -ℤ F a b c) +ℤ (F c a d -ℤ F b a d))
    unfolding over_faces
    flip-over =
        let f = L.face (2 * u) in let g = L.face (2 * u + 1) in
        let lf = W.ranges.face< e< in let lg = W.ranges.face< t< in
        let i = B.inner-left in let j = B.inner-right in let n = B.differ in
        sum-change-two {n = C.faces - 1} {a = f - 1} {b = g - 1} (λ q. at_corners F L p (L.adjacent (suc q))) (λ q. at_corners F (flip_cw L u) p ((flip_cw L u).adjacent (suc q)))
        (omega arith) (omega arith) (omega arith)
        (λ q l x y. kept_at W F p (λ v _. refl) (omega arith) (omega arith) (frame.others (omega arith) (omega arith) (omega arith)))
        ∙ ap₂ (λ (x y : ℤ). over_faces F C L p +ℤ (x +ℤ y))
        (ap₂ (λ (x y : ℤ). x -ℤ y) (ap (λ (q : ℕ). at_corners F (flip_cw L u) p ((flip_cw L u).adjacent q)) (back f i) ∙ after-e) (ap (λ (q : ℕ). at_corners F L p (L.adjacent q)) (back f i) ∙ at-e))
        (ap₂ (λ (x y : ℤ). x -ℤ y) (ap (λ (q : ℕ). at_corners F (flip_cw L u) p ((flip_cw L u).adjacent q)) (back g j) ∙ after-t) (ap (λ (q : ℕ). at_corners F L p (L.adjacent q)) (back g j) ∙ at-t))
      where
        back : (f : ℕ) → 0 < f → suc (f - 1) ≡ f
        back f i = omega arith

  pub flip-areas : area_total C (flip_cw L u) p ≡ area_total C L p
  flip-areas =
      let ρ = area_total C (flip_cw L u) p ∷ area_total C L p ∷ orient2d d b c ∷ orient2d a b c ∷ orient2d c a d ∷ orient2d b a d ∷ [] in
      eq-by (eq-in ρ v0 (v1 ⊕ ((v2 ⊖ v3) ⊕ (v4 ⊖ v5))) (flip-over orient2d orient2d-next) +⁰ eq-in ρ (v4 ⊕ v2) (v3 ⊕ v5) (sym (flip-area a b c d))) v0 v1 refl

  pub circle-even : circle_at L p (2 * u) ≡ incircle a b c d
  unfolding circle_at
  circle-even = ap (λ (x : ℕ). incircle a (p (L.origin x)) c (p (L.origin (L.prev x)))) (rev-even u)

  -- 01: "Each flip lowers the height sum by exactly the circle determinant."
  pub flip-heights : height_sum C L p ≡ height_sum C (flip_cw L u) p +ℤ circle_at L p (2 * u)
  flip-heights = rw circle-even (
      let ρ = height_sum C (flip_cw L u) p ∷ height_sum C L p ∷ height d b c ∷ height a b c ∷ height c a d ∷ height b a d ∷ incircle a b c d ∷ [] in
      eq-by (eq-in ρ (v1 ⊕ ((v2 ⊖ v3) ⊕ (v4 ⊖ v5))) v0 (sym (flip-over height height-next)) +⁰ eq-in ρ (v3 ⊕ v5) (v4 ⊕ v2 ⊕ v6) (flip-height a b c d)) v1 (v0 ⊕ v6) refl)

  -- so its absolute value is a measure of what flips are left, while the faces turn left
  pub flip-falls : LeftTurning C (flip_cw L u) p → pos 0 <ℤ circle_at L p (2 * u)
      → nat_abs (height_sum C (flip_cw L u) p) < nat_abs (height_sum C L p)
  flip-falls T h = abs-falls flip-heights (heights-nonneg T) h

  -- ---- left turning
  module _ (T : LeftTurning C L p) where
    -- the two triangles at the edge
    pub left_here : pos 0 <ℤ orient2d a b c
    left_here = subst (λ (z : ℤ). pos 0 <ℤ z) (at-e orient2d orient2d-next) (T.left B.inner-left (W.ranges.face< e<))

    pub left_there : pos 0 <ℤ orient2d b a d
    left_there = subst (λ (z : ℤ). pos 0 <ℤ z) (at-t orient2d orient2d-next) (T.left B.inner-right (W.ranges.face< t<))

    -- a flip whose two new triangles turn left
    pub flip-turns-left : pos 0 <ℤ orient2d d b c → pos 0 <ℤ orient2d c a d → LeftTurning C (flip_cw L u) p
    flip-turns-left dbc cad = record { left = λ {f} i l. go i l (ℕ_discrete f (L.face (2 * u))) (ℕ_discrete f (L.face (2 * u + 1))) }
      where
        go : {f : ℕ} → 0 < f → f < C.faces → Dec (f ≡ L.face (2 * u)) → Dec (f ≡ L.face (2 * u + 1))
            → pos 0 <ℤ at_corners orient2d (flip_cw L u) p ((flip_cw L u).adjacent f)
        go i l (yes q) k = rw q (subst (λ (z : ℤ). pos 0 <ℤ z) (sym (after-e orient2d orient2d-next)) dbc)
        go i l (no n) (yes q) = rw q (subst (λ (z : ℤ). pos 0 <ℤ z) (sym (after-t orient2d orient2d-next)) cad)
        go i l (no n) (no m) = subst (λ (z : ℤ). pos 0 <ℤ z) (sym (kept_at W orient2d p (λ v _. refl) i l (frame.others l n m))) (T.left i l)

    -- both turn left, where the far vertex is not outside the circle
    pub flip-keeps-left : pos 0 ≤ℤ circle_at L p (2 * u) → LeftTurning C (flip_cw L u) p
    flip-keeps-left h =
        let k = subst (λ (z : ℤ). pos 0 ≤ℤ z) circle-even h in
        flip-turns-left (flip-right a b c d left_here left_there k) (flip-left a b c d left_here left_there k)
