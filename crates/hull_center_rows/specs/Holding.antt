-- Which triangles hold the centre: what the test of one reads and answers, and the loop over the inner faces by number.
-- Assumes nothing.
use Rattle.std.specs.Prelude.{Bool, true, false, List, ◌≡◌, ℤ, length}
use Rattle.std.proofs.Math.Path.{refl, sym, ap, ap₂}
use Rattle.std.proofs.Common.{◌∙◌, subst}
use Prim.Native.Nat.{ℕ, suc, ◌+◌, ◌-◌, ◌*◌, ◌<◌, ◌≤◌}
use Rattle.std.proofs.Math.Decide.{ℕ_discrete}
use native.Mathlib.Omega.{arith}
use Rattle.std.proofs.Math.Dec.{T}
use Rattle.circle_test.specs.GoodRows.{held}
use Rattle.dcel.specs.Rows.{halves_of, row_of, links_of, position_of, There, Placed}
use Rattle.dcel.specs.MeshHeld.{MeshHeld, there, there-adjacent, next-in, origin-in, adjacent-in}
use Rattle.hull_center.specs.declared.PositionSum.{PositionSum}
use Rattle.hull_center.proofs.ExactLaws.{sum-small}
use Rattle.hull_center.specs.HullCenter.{SmallSum, is_center_left, is_center_left_of, holds_center_at, holds_center}
use Rattle.math.specs.declared.Point.{Point}
use Rattle.math.specs.Determinant.{InRange}
use Rattle.mesh.specs.declared.Counts.{Counts}
use Rattle.mesh.specs.Mesh.{In}
use Rattle.mesh.specs.Triangle.{Triangle, triangle}
use Rattle.sums.proofs.BitLaws.{from-true, is_true, is_false}
use Rattle.sums.proofs.BoundedLaws.{any-below→, any-below←}
use Rattle.hull_center_rows.specs.declared.Corners.{Corners}
use Rattle.hull_center_rows.specs.CenterRows.{HoldReady, CornersIn, CornersOf, TriangleIn, mesh-held, placed-in}

-- ---- the corners
module _ {s : List ℤ} {h : List ℕ} {a : ℕ} (R : CornersIn s h a) {b : ℕ} (x : b ≡ (halves_of h).next a) where
  pub second-there : There h b
  second-there = rw x R.next

  pub second-placed : {v : ℕ} → v ≡ (halves_of h).origin b → 2 * v + 1 < length s
  second-placed g = rw (g, x) R.v

  module _ {c : ℕ} (y : c ≡ (halves_of h).next b) where
    pub third-there : There h c
    third-there = rw (y, x) R.last

    pub third-placed : {w : ℕ} → w ≡ (halves_of h).origin c → 2 * w + 1 < length s
    third-placed g = rw (g, y, x) R.w

    pub corners-are : {u v w : ℕ} {p q r : Point} → u ≡ (halves_of h).origin a → v ≡ (halves_of h).origin b → w ≡ (halves_of h).origin c
        → p ≡ position_of s u → q ≡ position_of s v → r ≡ position_of s w → CornersOf s h a (record { p = p; q = q; r = r })
    corners-are eu ev ew ep eq er = record {
      p = ep ∙ ap (position_of s) eu;
      q = eq ∙ ap (position_of s) (ev ∙ ap (halves_of h).origin x);
      r = er ∙ ap (position_of s) (ew ∙ ap (halves_of h).origin (y ∙ ap (halves_of h).next x));
    }

-- ---- a triangle in its mesh
module _ {s : List ℤ} {h : List ℕ} {a : ℕ} (R : TriangleIn s h a) where
  H : MeshHeld R.counts R.outs h R.faces
  H = held R.rows

  in_b : In R.counts ((halves_of h).next a)
  in_b = next-in H R.used

  in_c : In R.counts ((halves_of h).next ((halves_of h).next a))
  in_c = next-in H in_b

  placed : {e : ℕ} → In R.counts e → Placed s ((halves_of h).origin e)
  placed l = placed-in R.rows (origin-in H l)

  pub corners-in : CornersIn s h a
  corners-in = record {
    here = there H R.used;
    next = there H in_b;
    last = there H in_c;
    u = (placed R.used).there;
    v = (placed in_b).there;
    w = (placed in_c).there;
  }

  three : Triangle R.counts (links_of R.outs h R.faces) a ((halves_of h).next a) ((halves_of h).next ((halves_of h).next a))
  unfolding links_of
  three = rw (H.rules.faces.three R.used R.inner) (triangle H.rules R.used R.inner)

  module _ {k : Corners} (K : CornersOf s h a k) where
    pub p-range : InRange k.p
    p-range = rw K.p (placed R.used).range

    pub q-range : InRange k.q
    q-range = rw K.q (placed in_b).range

    pub r-range : InRange k.r
    r-range = rw K.r (placed in_c).range

    -- its three sides, by the corners
    module _ (sum : PositionSum) {t₁ : Bool} (i₁ : t₁ ≡ is_center_left k.p k.q sum) where
      left-a : (o f : List ℕ) → is_center_left_of (links_of o h f) (position_of s) sum a ≡ t₁
      unfolding is_center_left_of links_of
      left-a o f =
          ap (λ (v : ℕ). is_center_left (position_of s ((halves_of h).origin a)) (position_of s v) sum) three.to-a
          ∙ ap₂ (λ (u v : Point). is_center_left u v sum) (sym K.p) (sym K.q) ∙ sym i₁

      pub holds-not-a : t₁ ≡ false → (o f : List ℕ) → false ≡ holds_center_at (links_of o h f) (position_of s) sum a
      unfolding holds_center_at links_of
      holds-not-a e o f = rw (left-a o f, e) refl

      module _ (e₁ : t₁ ≡ true) {t₂ : Bool} (i₂ : t₂ ≡ is_center_left k.q k.r sum) where
        left-b : (o f : List ℕ) → is_center_left_of (links_of o h f) (position_of s) sum ((halves_of h).next a) ≡ t₂
        unfolding is_center_left_of links_of
        left-b o f =
            ap (λ (v : ℕ). is_center_left (position_of s ((halves_of h).origin ((halves_of h).next a))) (position_of s v) sum) three.to-b
            ∙ ap₂ (λ (u v : Point). is_center_left u v sum) (sym K.q) (sym K.r) ∙ sym i₂

        pub holds-not-b : t₂ ≡ false → (o f : List ℕ) → false ≡ holds_center_at (links_of o h f) (position_of s) sum a
        unfolding holds_center_at links_of
        holds-not-b e o f = rw (left-a o f, e₁, left-b o f, e) refl

        pub holds-c : t₂ ≡ true → {t₃ : Bool} → t₃ ≡ is_center_left k.r k.p sum → (o f : List ℕ)
            → t₃ ≡ holds_center_at (links_of o h f) (position_of s) sum a
        unfolding holds_center_at is_center_left_of links_of
        holds-c e₂ {t₃} i₃ o f =
            i₃ ∙ ap₂ (λ (u v : Point). is_center_left u v sum) K.r K.p
            ∙ ap (λ (v : ℕ). is_center_left (position_of s ((halves_of h).origin ((halves_of h).next ((halves_of h).next a)))) (position_of s v) sum)
            (sym three.to-c)
            ∙ sym (rw (left-a o f, e₁, left-b o f, e₂) refl)

-- ---- the inner faces
-- none of 1 to f - 1 holds the centre, of m faces
pub record Passed (q : List ℤ) (h a : List ℕ) (sum : PositionSum) (m f : ℕ) : Type 0 where
  pub low : 0 < f
  pub high : f ≤ m
  pub none : (o : List ℕ) (j : ℕ) → suc j < f → T (holds_center_at (links_of o h a) (position_of q) sum (row_of a (suc j))) → ⊥

module _ {C : Counts} {q : List ℤ} {h a : List ℕ} {sum : PositionSum} (R : HoldReady C q h a sum) where
  M : MeshHeld C R.mesh.outs h a
  M = mesh-held R.mesh

  pub passed_start : Passed q h a sum C.faces 1
  passed_start = record { low = omega arith; high = M.rules.some; none = λ o j l t. omega arith }

  pub small-sum : SmallSum sum
  small-sum = rw R.sum_is (sum-small R.mesh.rows.good)

  -- face f, whose stored edge is e
  module _ {f : ℕ} (l : f < C.faces) where
    pub face-there : f < length a
    face-there = there-adjacent M l

    pub face-ready : 0 < f → {e : ℕ} → e ≡ row_of a f → TriangleIn q h e × SmallSum sum
    unfolding links_of
    face-ready i x = (
      rw x (record {
        counts = C;
        outs = R.mesh.outs;
        faces = a;
        rows = R.mesh.rows;
        used = adjacent-in M l;
        inner = (let z = M.rules.faces.stored l in omega arith);
      }),
      small-sum,
    )

  module _ {f : ℕ} (K : Passed q h a sum C.faces f) where
    module _ (l : f < C.faces) {e : ℕ} (x : e ≡ row_of a f) {t : Bool}
        (y : (o s : List ℕ) → t ≡ holds_center_at (links_of o h s) (position_of q) sum e) where
      tested : (o : List ℕ) → t ≡ holds_center_at (links_of o h a) (position_of q) sum (row_of a f)
      tested o = y o a ∙ ap (holds_center_at (links_of o h a) (position_of q) sum) x

      pub passed_on : t ≡ false → Passed q h a sum C.faces (f + 1)
      passed_on n = record { low = omega arith; high = omega arith; none = λ o j u. go o j u (ℕ_discrete (suc j) f) }
        where
          go : (o : List ℕ) (j : ℕ) → suc j < f + 1 → Dec (suc j ≡ f)
              → T (holds_center_at (links_of o h a) (position_of q) sum (row_of a (suc j))) → ⊥
          go o j u (yes z) w =
              subst T (ap (λ (g : ℕ). holds_center_at (links_of o h a) (position_of q) sum (row_of a g)) z ∙ sym (tested o) ∙ n) w
          go o j u (no z) w = K.none o j (omega arith) w

      pub passed-hit : t ≡ true → (o : List ℕ) → true ≡ holds_center C (links_of o h a) (position_of q)
      unfolding holds_center links_of
      passed-hit n o =
          let i = K.low in
          let z : f ≡ suc (f - 1) = omega arith in
          sym (rw (sym R.sum_is) (is_true _
          (any-below← (C.faces - 1) (λ j. holds_center_at (links_of o h a) (position_of q) sum (row_of a (suc j))) (f - 1) (omega arith)
          (subst (λ (g : ℕ). T (holds_center_at (links_of o h a) (position_of q) sum (row_of a g))) z (from-true (sym (tested o) ∙ n))))))

    pub passed-end : C.faces ≤ f → (o : List ℕ) → false ≡ holds_center C (links_of o h a) (position_of q)
    unfolding holds_center links_of
    passed-end n o =
        let m = K.high in
        sym (rw (sym R.sum_is) (is_false _ (λ t. (
        let r = any-below→ (C.faces - 1) (λ j. holds_center_at (links_of o h a) (position_of q) sum (row_of a (suc j))) t in
        let l = r.1 in K.none o r.0 (omega arith) r.2))))
