-- What the scan's tests of one triangle read, and what they answer. Assumes nothing.
use Rattle.std.specs.Prelude.{Bool, true, false, List, ◌≡◌, ◌≢◌, ℕ, ◌+◌, ◌*◌, ◌<◌, eqb, ℤ, pos, length}
use Rattle.std.proofs.Math.Path.{refl, ap, ap₂}
use Rattle.std.proofs.Common.{sym, ◌∙◌, zero-le, eq-eqb, ne_eqb, SFits, of_z}
use Rattle.std.specs.Int.Signed.{lt_z, le_z}
use Rattle.std.specs.Int.{w64}
use Rattle.algebra.proofs.Bound.{small-fits}
use Rattle.algebra.proofs.Test.{le_not_lt}
use Rattle.dcel.specs.Rows.{halves_of, links_of, position_of, There, Placed}
use Rattle.dcel.specs.MeshHeld.{MeshHeld, there, next-in, origin-in}
use Rattle.location.specs.declared.PositionInTriangulation.TheVariants.{OnVertex, OnFace, OnEdge}
use Rattle.location.specs.Place.{area_at}
use Rattle.location.specs.Scan.{holds_at, place_at_of}
use Rattle.math.specs.declared.Point.{Point}
use Rattle.math.specs.Determinant.{InRange, orient2d, is_coordinate, is_position}
use Rattle.math.proofs.Position.{coordinate-bits}
use Rattle.mesh.specs.Mesh.{In}
use Rattle.mesh.specs.Triangle.{Triangle, triangle}
use Rattle.search.specs.declared.Corners.{Corners}
use Rattle.search.specs.SearchRows.{CornersIn, CornersOf, TriangleReady, ready_held, ready-placed}

-- ---- the tests that the code makes of an area that it reads as s, as the definition's
right_is : {x s : ℤ} → x ≡ s → {t : Bool} → lt_z s (pos 0) ≡ t → lt_z x (pos 0) ≡ t
right_is e j = ap (λ (y : ℤ). lt_z y (pos 0)) e ∙ j

line-is : {x s : ℤ} → x ≡ s → SFits w64 s → {t : Bool} → eqb (of_z w64 s) (of_z w64 (pos 0)) ≡ t → is_coordinate x (pos 0) ≡ t
line-is {x} {s} e f j =
    ap (λ (y : ℤ). is_coordinate y (pos 0)) e ∙ sym (coordinate-bits f (small-fits w64 {z = pos 0} {B = 0} zero-le tt)) ∙ j

-- ---- reading them
module _ {s : List ℤ} {h : List ℕ} {a : ℕ} (R : CornersIn s h a) {b : ℕ} (x : b ≡ (halves_of h).next a) where
  pub second-there : There h b
  second-there = rw x R.next

  pub second-placed : {v : ℕ} → v ≡ (halves_of h).origin b → 2 * v + 1 < length s
  second-placed g = rw (g, x) R.v

  module _ {c : ℕ} (y : c ≡ (halves_of h).next b) where
    pub third-there : There h c
    third-there = rw (y, x) R.last

    pub third-placed : {w : ℕ} → w ≡ (halves_of h).origin c → 2 * w + 1 < length s
    third-placed g = rw (g, y, x) R.w

    pub corners-are : {u v w : ℕ} {p q r : Point} → u ≡ (halves_of h).origin a → v ≡ (halves_of h).origin b → w ≡ (halves_of h).origin c
        → p ≡ position_of s u → q ≡ position_of s v → r ≡ position_of s w
        → CornersOf s h a (record { b = b; c = c; u = u; v = v; w = w; p = p; q = q; r = r })
    corners-are eu ev ew ep eq er =
        let z : c ≡ (halves_of h).next ((halves_of h).next a) = y ∙ ap (halves_of h).next x in
        let gv = ev ∙ ap (halves_of h).origin x in
        let gw = ew ∙ ap (halves_of h).origin z in
        record {
          b = x;
          c = z;
          u = eu;
          v = gv;
          w = gw;
          p = ep ∙ ap (position_of s) eu;
          q = eq ∙ ap (position_of s) gv;
          r = er ∙ ap (position_of s) gw;
        }

-- ---- a triangle in its mesh
module _ {s : List ℤ} {h : List ℕ} {point : Point} {a : ℕ} (R : TriangleReady s h point a) where
  H : MeshHeld R.turn.counts R.turn.outs h R.turn.faces
  H = ready_held R.turn.ready

  in_b : In R.turn.counts ((halves_of h).next a)
  in_b = next-in H R.turn.used

  in_c : In R.turn.counts ((halves_of h).next ((halves_of h).next a))
  in_c = next-in H in_b

  placed : {e : ℕ} → In R.turn.counts e → Placed s ((halves_of h).origin e)
  placed l = ready-placed R.turn.ready (origin-in H l)

  pub corners-in : CornersIn s h a
  corners-in = record {
    here = there H R.turn.used;
    next = there H in_b;
    last = there H in_c;
    u = (placed R.turn.used).there;
    v = (placed in_b).there;
    w = (placed in_c).there;
  }

  three : Triangle R.turn.counts (links_of R.turn.outs h R.turn.faces) a ((halves_of h).next a) ((halves_of h).next ((halves_of h).next a))
  unfolding links_of
  three = rw (H.rules.faces.three R.turn.used R.inner) (triangle H.rules R.turn.used R.inner)

  module _ {k : Corners} (K : CornersOf s h a k) where
    pub p-range : InRange k.p
    p-range = rw K.p (placed R.turn.used).range

    pub q-range : InRange k.q
    q-range = rw K.q (placed in_b).range

    pub r-range : InRange k.r
    r-range = rw K.r (placed in_c).range

    -- its three areas, by the corners
    area-a : (o f : List ℕ) → area_at (links_of o h f) (position_of s) point a ≡ orient2d k.p k.q point
    unfolding links_of
    area-a o f =
        ap (λ (v : ℕ). orient2d (position_of s ((halves_of h).origin a)) (position_of s v) point) three.to-a
        ∙ ap₂ (λ (u v : Point). orient2d u v point) (sym K.p) (sym K.q)

    area-b : (o f : List ℕ) → area_at (links_of o h f) (position_of s) point ((halves_of h).next a) ≡ orient2d k.q k.r point
    unfolding links_of
    area-b o f =
        ap (λ (v : ℕ). orient2d (position_of s ((halves_of h).origin ((halves_of h).next a))) (position_of s v) point) three.to-b
        ∙ ap₂ (λ (u v : Point). orient2d u v point) (sym K.q) (sym K.r)

    area-c : (o f : List ℕ)
        → area_at (links_of o h f) (position_of s) point ((halves_of h).next ((halves_of h).next a)) ≡ orient2d k.r k.p point
    unfolding links_of
    area-c o f =
        ap (λ (v : ℕ). orient2d (position_of s ((halves_of h).origin ((halves_of h).next ((halves_of h).next a)))) (position_of s v) point)
        three.to-c
        ∙ ap₂ (λ (u v : Point). orient2d u v point) (sym K.r) (sym K.p)

    -- the tests of the three areas
    module _ {s₁ : ℤ} (i₁ : s₁ ≡ orient2d k.p k.q point) where
      right-a : {t : Bool} → lt_z s₁ (pos 0) ≡ t → (o f : List ℕ) → lt_z (area_at (links_of o h f) (position_of s) point a) (pos 0) ≡ t
      right-a j o f = right_is (area-a o f ∙ sym i₁) j

      line-a : SFits w64 s₁ → {t : Bool} → eqb (of_z w64 s₁) (of_z w64 (pos 0)) ≡ t → (o f : List ℕ)
          → is_coordinate (area_at (links_of o h f) (position_of s) point a) (pos 0) ≡ t
      line-a g j o f = line-is (area-a o f ∙ sym i₁) g j

      pub holds-not-a : lt_z s₁ (pos 0) ≡ true → (o f : List ℕ) → false ≡ holds_at (links_of o h f) (position_of s) point a
      unfolding holds_at links_of
      holds-not-a j o f = rw (right-a j o f) refl

    module _ {s₂ : ℤ} (i₂ : s₂ ≡ orient2d k.q k.r point) where
      right-b : {t : Bool} → lt_z s₂ (pos 0) ≡ t → (o f : List ℕ)
          → lt_z (area_at (links_of o h f) (position_of s) point ((halves_of h).next a)) (pos 0) ≡ t
      right-b j o f = right_is (area-b o f ∙ sym i₂) j

      line-b : SFits w64 s₂ → {t : Bool} → eqb (of_z w64 s₂) (of_z w64 (pos 0)) ≡ t → (o f : List ℕ)
          → is_coordinate (area_at (links_of o h f) (position_of s) point ((halves_of h).next a)) (pos 0) ≡ t
      line-b g j o f = line-is (area-b o f ∙ sym i₂) g j

    module _ {s₃ : ℤ} (i₃ : s₃ ≡ orient2d k.r k.p point) where
      right-c : {t : Bool} → lt_z s₃ (pos 0) ≡ t → (o f : List ℕ)
          → lt_z (area_at (links_of o h f) (position_of s) point ((halves_of h).next ((halves_of h).next a))) (pos 0) ≡ t
      right-c j o f = right_is (area-c o f ∙ sym i₃) j

      line-c : SFits w64 s₃ → {t : Bool} → eqb (of_z w64 s₃) (of_z w64 (pos 0)) ≡ t → (o f : List ℕ)
          → is_coordinate (area_at (links_of o h f) (position_of s) point ((halves_of h).next ((halves_of h).next a))) (pos 0) ≡ t
      line-c g j o f = line-is (area-c o f ∙ sym i₃) g j

    module _ {s₁ s₂ : ℤ} (i₁ : s₁ ≡ orient2d k.p k.q point) (i₂ : s₂ ≡ orient2d k.q k.r point)
        (j₁ : lt_z s₁ (pos 0) ≡ false) where
      pub holds-not-b : lt_z s₂ (pos 0) ≡ true → (o f : List ℕ) → false ≡ holds_at (links_of o h f) (position_of s) point a
      unfolding holds_at links_of
      holds-not-b j₂ o f = rw (right-a i₁ j₁ o f, right-b i₂ j₂ o f) refl

      pub holds-c : {s₃ : ℤ} → s₃ ≡ orient2d k.r k.p point → lt_z s₂ (pos 0) ≡ false → (o f : List ℕ)
          → le_z (pos 0) s₃ ≡ holds_at (links_of o h f) (position_of s) point a
      unfolding holds_at links_of
      holds-c {s₃} i₃ j₂ o f =
          le_not_lt (pos 0) s₃ ∙ rw (right-a i₁ j₁ o f, right-b i₂ j₂ o f, right-c i₃ {t = lt_z s₃ (pos 0)} refl o f) refl

    -- where the point is
    module _ {m₁ : Bool} (g₁ : m₁ ≡ is_position k.p point) where
      at-u : is_position (position_of s ((halves_of h).origin a)) point ≡ m₁
      at-u = sym (g₁ ∙ rw K.p refl)

      pub place-u : m₁ ≡ true → (o f : List ℕ) → OnVertex k.u ≡ place_at_of (links_of o h f) (position_of s) point a
      unfolding place_at_of links_of
      place-u e o f = rw (at-u, e, K.u) refl

      module _ (n₁ : m₁ ≡ false) {m₂ : Bool} (g₂ : m₂ ≡ is_position k.q point) where
        at-v : is_position (position_of s ((halves_of h).origin ((halves_of h).next a))) point ≡ m₂
        at-v = sym (g₂ ∙ rw K.q refl)

        pub place-v : m₂ ≡ true → (o f : List ℕ) → OnVertex k.v ≡ place_at_of (links_of o h f) (position_of s) point a
        unfolding place_at_of links_of
        place-v e o f = rw (at-u, n₁, at-v, e, K.v) refl

        module _ (n₂ : m₂ ≡ false) {m₃ : Bool} (g₃ : m₃ ≡ is_position k.r point) where
          at-w : is_position (position_of s ((halves_of h).origin ((halves_of h).next ((halves_of h).next a)))) point ≡ m₃
          at-w = sym (g₃ ∙ rw K.r refl)

          pub place-w : m₃ ≡ true → (o f : List ℕ) → OnVertex k.w ≡ place_at_of (links_of o h f) (position_of s) point a
          unfolding place_at_of links_of
          place-w e o f = rw (at-u, n₁, at-v, n₂, at-w, e, K.w) refl

          module _ (n₃ : m₃ ≡ false) {s₁ : ℤ} (i₁ : s₁ ≡ orient2d k.p k.q point) (g₄ : SFits w64 s₁) where
            on-a : {t : Bool} → eqb (of_z w64 s₁) (of_z w64 (pos 0)) ≡ t → (o f : List ℕ)
                → is_coordinate (area_at (links_of o h f) (position_of s) point a) (pos 0) ≡ t
            on-a = line-a i₁ g₄

            pub place-a : of_z w64 s₁ ≡ of_z w64 (pos 0) → (o f : List ℕ) → OnEdge a ≡ place_at_of (links_of o h f) (position_of s) point a
            unfolding place_at_of links_of
            place-a e o f = rw (at-u, n₁, at-v, n₂, at-w, n₃, on-a (eq-eqb _ _ e) o f) refl

            module _ (f₁ : of_z w64 s₁ ≢ of_z w64 (pos 0)) {s₂ : ℤ} (i₂ : s₂ ≡ orient2d k.q k.r point) (g₅ : SFits w64 s₂) where
              pub place-b : of_z w64 s₂ ≡ of_z w64 (pos 0) → (o f : List ℕ) → OnEdge k.b ≡ place_at_of (links_of o h f) (position_of s) point a
              unfolding place_at_of links_of
              place-b e o f = rw (at-u, n₁, at-v, n₂, at-w, n₃, on-a (ne_eqb _ _ f₁) o f, line-b i₂ g₅ (eq-eqb _ _ e) o f, K.b) refl

              module _ (f₂ : of_z w64 s₂ ≢ of_z w64 (pos 0)) {s₃ : ℤ} (i₃ : s₃ ≡ orient2d k.r k.p point) (g₆ : SFits w64 s₃) where
                pub place-c : of_z w64 s₃ ≡ of_z w64 (pos 0) → (o f : List ℕ) → OnEdge k.c ≡ place_at_of (links_of o h f) (position_of s) point a
                unfolding place_at_of links_of
                place-c e o f =
                    rw (
                      at-u,
                      n₁,
                      at-v,
                      n₂,
                      at-w,
                      n₃,
                      on-a (ne_eqb _ _ f₁) o f,
                      line-b i₂ g₅ (ne_eqb _ _ f₂) o f,
                      line-c i₃ g₆ (eq-eqb _ _ e) o f,
                      K.c,
                    ) refl

                pub place-face : of_z w64 s₃ ≢ of_z w64 (pos 0) → {b : ℕ} → b ≡ (halves_of h).face a → (o f : List ℕ)
                    → OnFace b ≡ place_at_of (links_of o h f) (position_of s) point a
                unfolding place_at_of links_of
                place-face e x o f =
                    rw (
                      at-u,
                      n₁,
                      at-v,
                      n₂,
                      at-w,
                      n₃,
                      on-a (ne_eqb _ _ f₁) o f,
                      line-b i₂ g₅ (ne_eqb _ _ f₂) o f,
                      line-c i₃ g₆ (ne_eqb _ _ e) o f,
                      x,
                    ) refl
