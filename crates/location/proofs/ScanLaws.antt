-- The scan always answers, and its answer is true of the mesh: its certificate is the search's. Assumes nothing.
use Rattle.std.specs.Prelude.{◌≡◌, [], ◌∷◌, Bool, ◌&&◌, cond, ℤ, ◌<ℤ◌, ◌≤ℤ◌}
use Rattle.std.proofs.Math.Path.{refl, subst}
use Rattle.std.proofs.Common.{sym, ◌∙◌, ap, ⊎_elim, T_not}
use Rattle.std.proofs.Math.Bool.{true, false, not}
use Prim.Native.Nat.{ℕ, zero, suc, ◌-◌, ◌<◌, ◌≤◌}
use Rattle.std.proofs.Math.Decide.{dec_lt}
use native.Mathlib.Omega.{arith}
use Rattle.std.proofs.Math.Dec.{T, not_T, ltb, ltb→lt}
use Rattle.std.proofs.Math.IntN.{pos}
use Rattle.std.specs.Int.Signed.{lt_z, lt_z_yes, lt_z_no}
use Rattle.algebra.proofs.Order.{le_antisymm}
use Rattle.algebra.proofs.RingLaws.{#◌, v0}
use Rattle.algebra.proofs.Sign.{◌+⁺◌, nn-in, lt_in, le-by, cases, refute}
use Rattle.sums.proofs.BitLaws.{from-true, from_false, and_left, and_right, and_both, lt?}
use Rattle.sums.specs.Bounded.{first_below}
use Rattle.sums.proofs.BoundedLaws.{first-below-le, first-below-passes, first-below-at-most, first-below-any}
use Rattle.math.specs.declared.Point.{Point}
use Rattle.math.specs.Determinant.{orient2d, is_position}
use Rattle.math.proofs.Plane.{orient2d-next}
use Rattle.mesh.specs.declared.Counts.{Counts}
use Rattle.mesh.specs.Mesh.{Links, In}
use Rattle.mesh.specs.Wf.{Wf}
use Rattle.mesh.specs.Triangle.{Triangle, triangle}
use Rattle.mesh.proofs.TriangleLaws.{next-triangle}
use Rattle.mesh.specs.Area.{LeftTurning, boundary_length, hull_edge}
use Rattle.mesh.proofs.BoundaryLaws.{inner-stored, boundary-below, boundary-outer, boundary-all}
use Rattle.math.proofs.Position.{same-coordinate, coordinate-same, same-position, position-same}
use Rattle.covering.specs.Holds.{Holds, HoldsFace}
use Rattle.covering.specs.HoldsLaws.{at-corner}
use Rattle.location.specs.declared.PositionInTriangulation.TheVariants.{OnVertex, OnFace, OnEdge, OutsideOfConvexHull}
use Rattle.location.specs.Place.{is_left, is_right_of, is_on_line, area_at, LeftOf, AtVertex}
use Rattle.location.proofs.PlaceFacts.{Certified}
use Rattle.location.proofs.SearchLaws.{in-face, in-edge}
use Rattle.location.proofs.HeldLaws.{held}
use Rattle.location.specs.Scan.{holds_at, place_at_of, first_holding, first_left, scan}

-- ---- tests
strict : (z : ℤ) → pos 0 ≤ℤ z → (z ≡ pos 0 → ⊥) → pos 0 <ℤ z
strict z h d = let ρ = z ∷ [] in ⊎_elim (λ k. k.is) (λ n. absurd (d (le_antisymm (le-by n v0 (# 0) refl) h))) (cases ρ v0)

not-below : {z : ℤ} → pos 0 ≤ℤ z → T (not (lt_z z (pos 0)))
not-below {z} h = not_T (lt_z z (pos 0)) (λ t. let ρ = z ∷ [] in refute (lt_in ρ v0 (# 0) (lt_z_yes t) +⁺ nn-in ρ v0 h) tt)

module _ {C : Counts} {L : Links} (W : Wf C L) (p : ℕ → Point) (q : Point) where
  -- ---- the areas of a triangle's half-edges, by its corners
  area-corners : {a b c : ℕ} → Triangle C L a b c → area_at L p q a ≡ orient2d (p (L.origin a)) (p (L.origin b)) q
  area-corners {a} t = ap (λ (v : ℕ). orient2d (p (L.origin a)) (p v) q) t.to-a

  -- on two half-edges: at the corner between
  on_both : {a b c : ℕ} → Triangle C L a b c → pos 0 <ℤ orient2d (p (L.origin b)) (p (L.origin c)) (p (L.origin a))
      → area_at L p q a ≡ pos 0 → area_at L p q b ≡ pos 0 → p (L.origin b) ≡ q
  on_both {a} {b} {c} t left x y =
      sym (at-corner q (p (L.origin b)) (p (L.origin c)) (p (L.origin a)) left (sym (area-corners (next-triangle t)) ∙ y) (sym (area-corners t) ∙ x))

  -- ---- in one triangle
  module _ {a : ℕ} (t : Triangle C L a (L.next a) (L.next (L.next a))) (i : 0 < L.face a)
      (left : pos 0 <ℤ orient2d (p (L.origin a)) (p (L.origin (L.next a))) (p (L.origin (L.next (L.next a))))) where
    b : ℕ
    b = L.next a

    c : ℕ
    c = L.next (L.next a)

    pub place-certified : T (holds_at L p q a) → Certified C L p q (place_at_of L p q a)
    unfolding holds_at place_at_of b c
    place-certified H =
        go (is_position (p (L.origin a)) q) (is_position (p (L.origin b)) q) (is_position (p (L.origin c)) q) refl refl refl
        (is_on_line L p q a) (is_on_line L p q b) (is_on_line L p q c) refl refl refl
      where
        l₁ : pos 0 <ℤ orient2d (p (L.origin b)) (p (L.origin c)) (p (L.origin a))
        l₁ = subst (λ (z : ℤ). pos 0 <ℤ z) (orient2d-next (p (L.origin a)) (p (L.origin b)) (p (L.origin c))) left

        l₂ : pos 0 <ℤ orient2d (p (L.origin c)) (p (L.origin a)) (p (L.origin b))
        l₂ = subst (λ (z : ℤ). pos 0 <ℤ z) (orient2d-next (p (L.origin b)) (p (L.origin c)) (p (L.origin a))) l₁

        H₂ : T (not (is_right_of L p q b) && not (is_right_of L p q c))
        H₂ = and_right (not (is_right_of L p q a)) (not (is_right_of L p q b) && not (is_right_of L p q c)) H

        low-a : pos 0 ≤ℤ area_at L p q a
        low-a = lt_z_no (and_left (not (is_right_of L p q a)) (not (is_right_of L p q b) && not (is_right_of L p q c)) H)

        low-b : pos 0 ≤ℤ area_at L p q b
        low-b = lt_z_no (and_left (not (is_right_of L p q b)) (not (is_right_of L p q c)) H₂)

        low-c : pos 0 ≤ℤ area_at L p q c
        low-c = lt_z_no (and_right (not (is_right_of L p q b)) (not (is_right_of L p q c)) H₂)

        on : (x : ℕ) → is_on_line L p q x ≡ true → area_at L p q x ≡ pos 0
        on x e = same-coordinate (area_at L p q x) (pos 0) (from-true e)

        off : (x : ℕ) → pos 0 ≤ℤ area_at L p q x → is_on_line L p q x ≡ false → LeftOf L p q x
        off x low e = strict (area_at L p q x) low (λ z. T_not (is_on_line L p q x) (from_false e) (coordinate-same (area_at L p q x) (pos 0) z))

        -- q is on x and not at the corner between x and y
        off-corner : {x y z : ℕ} → Triangle C L x y z
            → pos 0 <ℤ orient2d (p (L.origin y)) (p (L.origin z)) (p (L.origin x)) → is_position (p (L.origin y)) q ≡ false
            → area_at L p q x ≡ pos 0 → area_at L p q y ≡ pos 0 → ⊥
        off-corner {x} {y} s l e u w = T_not (is_position (p (L.origin y)) q) (from_false e) (position-same (p (L.origin y)) q (on_both s l u w))

        t₁ : Triangle C L b c a
        t₁ = next-triangle t

        t₂ : Triangle C L c a b
        t₂ = next-triangle t₁

        i₁ : 0 < L.face b
        i₁ = subst (λ (f : ℕ). 0 < f) (sym t.face-b) i

        i₂ : 0 < L.face c
        i₂ = subst (λ (f : ℕ). 0 < f) (sym t.face-c) i

        at : {x : ℕ} → In C x → is_position (p (L.origin x)) q ≡ true → AtVertex C p q (L.origin x)
        at {x} l e = record { used = W.ranges.origin< l; here = same-position (p (L.origin x)) q (from-true e) }

        go : (u v w : Bool) → is_position (p (L.origin a)) q ≡ u → is_position (p (L.origin b)) q ≡ v → is_position (p (L.origin c)) q ≡ w
            → (x y z : Bool) → is_on_line L p q a ≡ x → is_on_line L p q b ≡ y → is_on_line L p q c ≡ z
            → Certified C L p q (cond u (OnVertex (L.origin a)) (cond v (OnVertex (L.origin b)) (cond w (OnVertex (L.origin c))
            (cond x (OnEdge a) (cond y (OnEdge b) (cond z (OnEdge c) (OnFace (L.face a))))))))
        go true v w eu ev ew x y z ex ey ez = at t.in-a eu
        go false true w eu ev ew x y z ex ey ez = at t.in_b ev
        go false false true eu ev ew x y z ex ey ez = at t.in_c ew
        go false false false eu ev ew true y z ex ey ez =
            let k = on a ex in
            in-edge W p q t₂ i₂ (strict (area_at L p q c) low-c (λ m. off-corner t₂ left eu m k)) k (strict (area_at L p q b) low-b (off-corner t l₁ ev k))
        go false false false eu ev ew false true z ex ey ez =
            let k = on b ey in
            in-edge W p q t i (off a low-a ex) k (strict (area_at L p q c) low-c (off-corner t₁ l₂ ew k))
        go false false false eu ev ew false false true ex ey ez =
            in-edge W p q t₁ i₁ (off b low-b ey) (on c ez) (off a low-a ex)
        go false false false eu ev ew false false false ex ey ez =
            in-face W p q t i (off a low-a ex) (off b low-b ey) (off c low-c ez)

  -- ---- the triangle of a stored edge
  stored-triangle : {f : ℕ} → 0 < f → f < C.faces
      → Triangle C L (L.adjacent f) (L.next (L.adjacent f)) (L.next (L.next (L.adjacent f)))
  stored-triangle {f} i l =
      let m = W.ranges.adjacent< l in let k = inner-stored W i l in
      subst (λ (c : ℕ). Triangle C L (L.adjacent f) (L.next (L.adjacent f)) c) (sym (W.faces.three m k)) (triangle W m k)

  -- a face that holds q passes the scan's test
  pub holds-tested : {f : ℕ} → HoldsFace C L p q f → T (holds_at L p q (L.adjacent f))
  unfolding holds_at
  holds-tested {f} H =
      let a = L.adjacent f in
      let m = W.ranges.adjacent< H.below in
      let k = inner-stored W H.inner H.below in
      let t = stored-triangle H.inner H.below in
      let K : Holds q (p (L.origin a)) (p (L.origin (L.next a))) (p (L.origin (L.next (L.next a)))) = rw (W.links.origin-next m, W.faces.three m k) H.holds in
      let x : pos 0 ≤ℤ area_at L p q a = subst (λ (z : ℤ). pos 0 ≤ℤ z) (sym (area-corners t)) K.ab in
      let y : pos 0 ≤ℤ area_at L p q (L.next a) = subst (λ (z : ℤ). pos 0 ≤ℤ z) (sym (area-corners (next-triangle t))) K.bc in
      let z : pos 0 ≤ℤ area_at L p q (L.next (L.next a)) = subst (λ (z : ℤ). pos 0 ≤ℤ z) (sym (area-corners (next-triangle (next-triangle t)))) K.ca in
      and_both (not (is_right_of L p q a)) (not (is_right_of L p q (L.next a)) && not (is_right_of L p q (L.next (L.next a)))) (not-below x)
      (and_both (not (is_right_of L p q (L.next a))) (not (is_right_of L p q (L.next (L.next a)))) (not-below y) (not-below z))

  -- and a face that passes it holds q
  pub tested-holds : {f : ℕ} → 0 < f → f < C.faces → T (holds_at L p q (L.adjacent f)) → HoldsFace C L p q f
  unfolding holds_at
  tested-holds {f} i l H =
      let a = L.adjacent f in
      let m = W.ranges.adjacent< l in
      let t = stored-triangle i l in
      let H₂ = and_right (not (is_right_of L p q a)) (not (is_right_of L p q (L.next a)) && not (is_right_of L p q (L.next (L.next a)))) H in
      let x : pos 0 ≤ℤ area_at L p q a = lt_z_no (and_left (not (is_right_of L p q a)) (not (is_right_of L p q (L.next a)) && not (is_right_of L p q (L.next (L.next a)))) H) in
      let y : pos 0 ≤ℤ area_at L p q (L.next a) = lt_z_no (and_left (not (is_right_of L p q (L.next a))) (not (is_right_of L p q (L.next (L.next a)))) H₂) in
      let z : pos 0 ≤ℤ area_at L p q (L.next (L.next a)) = lt_z_no (and_right (not (is_right_of L p q (L.next a))) (not (is_right_of L p q (L.next (L.next a)))) H₂) in
      let K : Holds q (p (L.origin a)) (p (L.origin (L.next a))) (p (L.origin (L.next (L.next a)))) = record {
        ab = subst (λ (z : ℤ). pos 0 ≤ℤ z) (area-corners t) x;
        bc = subst (λ (z : ℤ). pos 0 ≤ℤ z) (area-corners (next-triangle t)) y;
        ca = subst (λ (z : ℤ). pos 0 ≤ℤ z) (area-corners (next-triangle (next-triangle t))) z;
      } in
      record { inner = i; below = l; holds = rw (← W.links.origin-next m, ← W.faces.three m (inner-stored W i l)) K }

  -- the face at which the scan stops is the lowest that holds q
  pub holding-holds : first_holding C L p q < C.faces - 1 → HoldsFace C L p q (suc (first_holding C L p q))
  unfolding first_holding
  holding-holds l = tested-holds (omega arith) (omega arith) (first-below-passes (C.faces - 1) (λ f. holds_at L p q (L.adjacent (suc f))) l)

  -- the scan stops at a face that holds q, or before
  pub holding-first : {f : ℕ} → HoldsFace C L p q f → suc (first_holding C L p q) ≤ f
  unfolding first_holding
  holding-first {f} H = go f H
    where
      go : (f : ℕ) → HoldsFace C L p q f → suc (first_below (C.faces - 1) (λ f. holds_at L p q (L.adjacent (suc f)))) ≤ f
      go zero H = absurd (let i = H.inner in omega arith)
      go (suc f) H = let k = first-below-at-most (C.faces - 1) (λ f. holds_at L p q (L.adjacent (suc f))) f (holds-tested H) in omega arith

  module _ (turning : LeftTurning C L p) where
    -- strictly left of no boundary edge, so some triangle is hit
    pub inner-found : ((e : ℕ) → In C e → L.face e ≡ 0 → LeftOf L p q e → ⊥) → first_holding C L p q < C.faces - 1
    inner-found none = let H = held W turning q none in let s = holding-first H.1 in let b = H.1.below in omega arith

    -- where no triangle holds q, some boundary edge has it strictly left
    pub left-found : (first_holding C L p q < C.faces - 1 → ⊥) → first_left C L p q < boundary_length C L
    unfolding first_left
    left-found none = go (dec_lt (first_left C L p q) (boundary_length C L))
      where
        go : Dec (first_below (boundary_length C L) (λ k. is_left L p q (hull_edge L k)) < boundary_length C L)
            → first_below (boundary_length C L) (λ k. is_left L p q (hull_edge L k)) < boundary_length C L
        go (yes l) = l
        go (no d) =
            let m = first-below-le (boundary_length C L) (λ k. is_left L p q (hull_edge L k)) in
            let H = held W turning q (λ e l o k. let at = boundary-all W l o in
            first-below-any (boundary_length C L) (λ k. is_left L p q (hull_edge L k)) (omega arith) at.0 at.1
            (subst (λ (x : ℕ). T (is_left L p q x)) (sym at.2) k.lt)) in
            let s = holding-first H.1 in let b = H.1.below in
            absurd (none (omega arith))

    -- THE SCAN'S CERTIFICATE: it always hits
    pub scan-certified : Certified C L p q (scan C L p q)
    unfolding scan first_holding first_left
    scan-certified = go (ltb (first_holding C L p q) (C.faces - 1)) refl
      where
        go : (x : Bool) → ltb (first_holding C L p q) (C.faces - 1) ≡ x
            → Certified C L p q (cond x (place_at_of L p q (L.adjacent (suc (first_holding C L p q))))
            (OutsideOfConvexHull (hull_edge L (first_left C L p q))))
        go true e =
            let l : first_holding C L p q < C.faces - 1 = ltb→lt (first_holding C L p q) (C.faces - 1) (from-true e) in
            let f = suc (first_holding C L p q) in
            let i : 0 < f = omega arith in
            let b : f < C.faces = omega arith in
            place-certified (stored-triangle i b) (inner-stored W i b) (turning.left i b) (first-below-passes (C.faces - 1) (λ f. holds_at L p q (L.adjacent (suc f))) l)
        go false e =
            let n = (lt? (first_holding C L p q) (C.faces - 1)).1 (from_false e) in
            let l = left-found (λ k. omega arith) in
            let k = first_left C L p q in
            record {
              used = boundary-below W k;
              outer = boundary-outer W k;
              left = lt_z_yes
                  (first-below-passes (boundary_length C L) (λ k. is_left L p q (hull_edge L k)) l);
            }
