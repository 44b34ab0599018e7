-- What the functions of one turn read, and what they answer: over plain values, so that the needs of the code are single
-- applications. Two edges of a triangle meet, so three positions are enough for its sides. Assumes nothing.
use Rattle.std.specs.Prelude.{Bool, true, false, cond, List, ◌≢◌, ◌≡◌, ℕ, ◌+◌, ◌*◌, ◌<◌, ℤ, pos, length}
use Rattle.std.proofs.Math.Path.{refl, sym, ap, ap₂}
use Rattle.std.proofs.Common.{◌∙◌, arith}
use borrow.Author.Tests.{eq-eqb, ne_eqb}
use Rattle.std.specs.Int.Signed.{lt_z, le_z}
use Rattle.algebra.proofs.Test.{le_read}
use Rattle.dcel.specs.Rows.{halves_of, links_of, position_of, There, Placed}
use Rattle.dcel.specs.MeshHeld.{MeshHeld, there, there-rev, next-in, prev-in, origin-in, to_in}
use Rattle.location.specs.declared.PositionInTriangulation.TheVariants.{OnVertex, OnFace, OnEdge, OutsideOfConvexHull}
use Rattle.location.specs.declared.SearchState.{SearchState}
use Rattle.location.specs.declared.SearchState.TheVariants.{Found, Onward}
use Rattle.location.specs.Place.{area_at}
use Rattle.location.proofs.PlaceLaws.{area-next, area-prev}
use Rattle.location.specs.Search.{beyond, across_edge, rotate_ccw, rotate_cw, on_line_of, by_side, search_turn}
use Rattle.math.specs.declared.Point.{Point}
use Rattle.math.specs.Determinant.{InRange, orient2d, is_position}
use Rattle.math.proofs.Side.{by_left, by_right, by-line}
use Rattle.mesh.specs.declared.Counts.{Counts}
use Rattle.mesh.specs.Mesh.{Links}
use Rattle.mesh.specs.Triangle.{Triangle, triangle, rev-in}
use Rattle.sums.specs.Half.{rev}
use Rattle.sums.proofs.HalfLaws.{rev-rev}
use Rattle.search.specs.SearchRows.{TurnReady, EndsReady, LineReady, ready_held, ready-placed}

-- ---- the line of e
module _ (h : List ℕ) (e : ℕ) {f : ℕ} (x : f ≡ (halves_of h).face e) where
  pub line-outer : f ≡ 0 → {t d : ℕ} → t ≡ rev e → d ≡ (halves_of h).prev t → (o a : List ℕ)
      → Onward d ≡ on_line_of (links_of o h a) e
  unfolding on_line_of links_of
  line-outer z y w o a = rw (w, y, eq-eqb ((halves_of h).face e) 0 (sym x ∙ z)) refl

  pub line-inner : f ≢ 0 → {d : ℕ} → d ≡ (halves_of h).prev e → (o a : List ℕ) → Onward d ≡ on_line_of (links_of o h a) e
  unfolding on_line_of links_of
  line-inner z w o a = rw (w, ne_eqb ((halves_of h).face e) 0 (λ k. z (x ∙ k))) refl

-- ---- across e2
module _ (h : List ℕ) (e2 : ℕ) {t f : ℕ} (x : t ≡ rev e2) (y : f ≡ (halves_of h).face t) where
  pub beyond-outer : f ≡ 0 → (o a : List ℕ) → Onward t ≡ beyond (links_of o h a) e2
  unfolding beyond links_of
  beyond-outer z o a = rw (x, eq-eqb ((halves_of h).face (rev e2)) 0 (sym (y ∙ ap (halves_of h).face x) ∙ z)) refl

  pub beyond-inner : f ≢ 0 → {d : ℕ} → d ≡ (halves_of h).prev t → (o a : List ℕ) → Onward d ≡ beyond (links_of o h a) e2
  unfolding beyond links_of
  beyond-inner z w o a = rw (w, x, ne_eqb ((halves_of h).face (rev e2)) 0 (λ k. z (y ∙ ap (halves_of h).face x ∙ k))) refl

-- by the tests of an area z, which the code reads as s
module _ (h : List ℕ) (e2 : ℕ) {s z : ℤ} (r : s ≡ z) {f : ℕ} (o a : List ℕ) (e1 : ℕ) (x : f ≡ (halves_of h).face e1) where
  pub across-left : lt_z (pos 0) s ≡ true → Found (OnFace f) ≡ across_edge (links_of o h a) e1 e2 z
  unfolding across_edge links_of
  across-left i = ap (λ (f : ℕ). Found (OnFace f)) x ∙ sym (by_left z _ _ _ (rw r at i))

  module _ (i : lt_z (pos 0) s ≡ false) where
    pub across-right : lt_z s (pos 0) ≡ true → {t : SearchState} → t ≡ beyond (links_of o h a) e2 → t ≡ across_edge (links_of o h a) e1 e2 z
    unfolding across_edge
    across-right j m = m ∙ sym (by_right z _ _ _ (rw r at i) (rw r at j))

    pub across-line : lt_z s (pos 0) ≡ false → Found (OnEdge e2) ≡ across_edge (links_of o h a) e1 e2 z
    unfolding across_edge
    across-line j = sym (by-line z _ _ _ (rw r at i) (rw r at j))

-- ---- the third side of a triangle from behind, by its corners
module _ {C : Counts} {L : Links} (p : ℕ → Point) (q : Point) {a b c : ℕ} (t : Triangle C L a b c) where
  area-back : area_at L p q (rev c) ≡ orient2d (p (L.origin a)) (p (L.origin c)) q
  area-back = ap₂ (λ (u v : ℕ). orient2d (p u) (p v) q) t.to-c (ap L.origin (rev-rev c))

-- ---- a half-edge in its mesh
module _ {q : List ℤ} {h : List ℕ} {point : Point} {e : ℕ} (R : TurnReady q h point e) where
  H : MeshHeld R.counts R.outs h R.faces
  H = ready_held R.ready

  pub here-there : There h e
  here-there = there H R.used

  pub back-there : There h (rev e)
  back-there = there-rev H R.used

  pub line-ready : LineReady h e
  line-ready = record { here = here-there; back = back-there }

  back : TurnReady q h point (rev e)
  back = record { counts = R.counts; outs = R.outs; faces = R.faces; ready = R.ready; used = rev-in R.counts R.used }

  pub back-ready : {t : ℕ} → t ≡ rev e → TurnReady q h point t
  back-ready x = rw x back

  -- what stands behind the next half-edge and the one before
  pub next-back-there : {d : ℕ} → d ≡ (halves_of h).next e → There h (rev d)
  next-back-there x = rw x (there-rev H (next-in H R.used))

  pub prev-back-there : {d : ℕ} → d ≡ (halves_of h).prev e → There h (rev d)
  prev-back-there x = rw x (there-rev H (prev-in H R.used))

  pub origin-placed : {u : ℕ} → u ≡ (halves_of h).origin e → Placed q u
  origin-placed x = rw x (ready-placed R.ready (origin-in H R.used))

  pub to-placed : {w : ℕ} → w ≡ (halves_of h).origin (rev e) → Placed q w
  to-placed x = rw x (ready-placed R.ready (to_in H R.used))

  -- in an inner face: c is the half-edge before it, from v at far
  module _ {f : ℕ} (x : f ≡ (halves_of h).face e) (z : f ≢ 0) where
    three : Triangle R.counts (links_of R.outs h R.faces) e ((halves_of h).next e) ((halves_of h).prev e)
    unfolding links_of
    three = triangle H.rules R.used (let d : (halves_of h).face e ≢ 0 = λ k. z (x ∙ k) in omega arith)

    module _ {c : ℕ} (y : c ≡ (halves_of h).prev e) where
      pub prev-there : There h c
      prev-there = rw y (there H (prev-in H R.used))

      module _ {v : ℕ} (g : v ≡ (halves_of h).origin c) where
        far-placed : Placed q v
        far-placed = rw (g, y) (ready-placed R.ready (origin-in H (prev-in H R.used)))

        pub far-there : 2 * v + 1 < length q
        far-there = far-placed.there

        pub far-range : {far : Point} → far ≡ position_of q v → InRange far
        far-range k = rw k far-placed.range

-- ---- e goes from f to t
module _ {q : List ℤ} {h : List ℕ} {point : Point} {e : ℕ} {f t : Point} (R : EndsReady q h point e f t) where
  pub ends-range : InRange f × InRange t × InRange point
  ends-range = (rw R.from (origin-placed R.turn refl).range, rw R.to (to-placed R.turn refl).range, R.turn.ready.range)

  -- by the tests of the area that the code reads
  module _ {s : ℤ} (r : s ≡ orient2d f t point) where
    here-area : (o a : List ℕ) → s ≡ area_at (links_of o h a) (position_of q) point e
    unfolding links_of
    here-area o a = r ∙ rw (R.from, R.to) refl

    pub side_left : lt_z (pos 0) s ≡ true → {x : SearchState} (o a : List ℕ) → x ≡ rotate_ccw (links_of o h a) (position_of q) point e
        → x ≡ by_side (links_of o h a) (position_of q) point e
    unfolding by_side
    side_left i o a m = m ∙ sym (by_left (area_at (links_of o h a) (position_of q) point e) _ _ _ (rw (here-area o a) at i))

    module _ (i : lt_z (pos 0) s ≡ false) where
      pub side_right : lt_z s (pos 0) ≡ true → {x : SearchState} (o a : List ℕ) → x ≡ rotate_cw (links_of o h a) (position_of q) point e
          → x ≡ by_side (links_of o h a) (position_of q) point e
      unfolding by_side
      side_right j o a m =
          m ∙ sym (by_right (area_at (links_of o h a) (position_of q) point e) _ _ _ (rw (here-area o a) at i) (rw (here-area o a) at j))

      pub side-line : lt_z s (pos 0) ≡ false → {x : SearchState} (o a : List ℕ) → x ≡ on_line_of (links_of o h a) e
          → x ≡ by_side (links_of o h a) (position_of q) point e
      unfolding by_side
      side-line j o a m =
          m ∙ sym (by-line (area_at (links_of o h a) (position_of q) point e) _ _ _ (rw (here-area o a) at i) (rw (here-area o a) at j))

  -- the point is strictly left
  module _ {b : ℕ} (x : b ≡ (halves_of h).face e) where
    pub ccw-outer : b ≡ 0 → (o a : List ℕ) → Found (OutsideOfConvexHull e) ≡ rotate_ccw (links_of o h a) (position_of q) point e
    unfolding rotate_ccw links_of
    ccw-outer z o a = rw (eq-eqb ((halves_of h).face e) 0 (sym x ∙ z)) refl

    module _ (z : b ≢ 0) {c v : ℕ} {far : Point} {s : ℤ}
        (y : c ≡ (halves_of h).prev e) (g : v ≡ (halves_of h).origin c) (k : far ≡ position_of q v) (i : s ≡ orient2d f far point) where
      ccw-area : (o a : List ℕ) → area_at (links_of o h a) (position_of q) point (rev ((halves_of h).prev e)) ≡ s
      unfolding links_of
      ccw-area o a = area-back (position_of q) point (three R.turn x z) ∙ sym (i ∙ rw (k, g, y, R.from) refl)

      ccw-by : {t : Bool} → lt_z s (pos 0) ≡ t → (o a : List ℕ)
          → rotate_ccw (links_of o h a) (position_of q) point e
          ≡ cond t (across_edge (links_of o h a) e ((halves_of h).next e) (area_at (links_of o h a) (position_of q) point ((halves_of h).next e)))
          (Onward (rev ((halves_of h).prev e)))
      unfolding rotate_ccw links_of
      ccw-by u o a = rw (ne_eqb ((halves_of h).face e) 0 (λ k. z (x ∙ k)), ccw-area o a, u) refl

      pub ccw-on : le_z (pos 0) s ≡ true → {d : ℕ} → d ≡ rev c → (o a : List ℕ) → Onward d ≡ rotate_ccw (links_of o h a) (position_of q) point e
      ccw-on u w o a = ap Onward (w ∙ ap rev y) ∙ sym (ccw-by (le_read (pos 0) s u) o a)

      pub ccw-across : le_z (pos 0) s ≡ false → {d : ℕ} {s₂ : ℤ} {r : SearchState} → d ≡ (halves_of h).next e → s₂ ≡ orient2d t far point
          → ((o a : List ℕ) (e1 : ℕ) → b ≡ (halves_of h).face e1 → r ≡ across_edge (links_of o h a) e1 d s₂) → (o a : List ℕ)
          → r ≡ rotate_ccw (links_of o h a) (position_of q) point e
      unfolding links_of
      ccw-across u w l r o a =
          r o a e x
          ∙ ap₂ (across_edge (links_of o h a) e) w (l ∙ rw (k, g, y, R.to) refl ∙ sym (area-next (position_of q) point (three R.turn x z)))
          ∙ sym (ccw-by (le_read (pos 0) s u) o a)

  -- the point is strictly right; e₁ is the reverse
  module _ {e₁ b : ℕ} (w : e₁ ≡ rev e) (x : b ≡ (halves_of h).face e₁) where
    pub cw-outer : b ≡ 0 → (o a : List ℕ) → Found (OutsideOfConvexHull e₁) ≡ rotate_cw (links_of o h a) (position_of q) point e
    unfolding rotate_cw links_of
    cw-outer z o a = rw (w, eq-eqb ((halves_of h).face (rev e)) 0 (sym (x ∙ ap (halves_of h).face w) ∙ z)) refl

    module _ (z : b ≢ 0) where
      three_back : Triangle R.turn.counts (links_of R.turn.outs h R.turn.faces)
          (rev e) ((halves_of h).next (rev e)) ((halves_of h).prev (rev e))
      unfolding back
      three_back = three (back R.turn) (x ∙ ap (halves_of h).face w) z

      module _ {c v : ℕ} {far : Point} {s : ℤ} (y : c ≡ (halves_of h).prev e₁) (g : v ≡ (halves_of h).origin c) (k : far ≡ position_of q v)
          (i : s ≡ orient2d f far point) where
        cw-area : (o a : List ℕ) → area_at (links_of o h a) (position_of q) point ((halves_of h).next (rev e)) ≡ s
        unfolding links_of
        cw-area o a =
            area-next (position_of q) point three_back
            ∙ ap (λ (d : ℕ). orient2d (position_of q ((halves_of h).origin d)) (position_of q ((halves_of h).origin ((halves_of h).prev (rev e)))) point)
            (rev-rev e)
            ∙ sym (i ∙ rw (k, g, y, w, R.from) refl)

        cw-by : {t : Bool} → lt_z (pos 0) s ≡ t → (o a : List ℕ)
            → rotate_cw (links_of o h a) (position_of q) point e
            ≡ cond t (across_edge (links_of o h a) (rev e) ((halves_of h).prev (rev e))
            (area_at (links_of o h a) (position_of q) point ((halves_of h).prev (rev e))))
            (Onward ((halves_of h).next (rev e)))
        unfolding rotate_cw links_of
        cw-by u o a = rw (ne_eqb ((halves_of h).face (rev e)) 0 (λ k. z (x ∙ ap (halves_of h).face w ∙ k)), cw-area o a, u) refl

        pub cw-on : le_z s (pos 0) ≡ true → {d : ℕ} → d ≡ (halves_of h).next e₁ → (o a : List ℕ)
            → Onward d ≡ rotate_cw (links_of o h a) (position_of q) point e
        cw-on u m o a = ap Onward (m ∙ ap (halves_of h).next w) ∙ sym (cw-by (le_read s (pos 0) u) o a)

        pub cw-across : le_z s (pos 0) ≡ false → {s₂ : ℤ} {r : SearchState} → s₂ ≡ orient2d far t point
            → ((o a : List ℕ) (e1 : ℕ) → b ≡ (halves_of h).face e1 → r ≡ across_edge (links_of o h a) e1 c s₂) → (o a : List ℕ)
            → r ≡ rotate_cw (links_of o h a) (position_of q) point e
        unfolding links_of
        cw-across u l r o a =
            r o a (rev e) (x ∙ ap (halves_of h).face w)
            ∙ ap₂ (across_edge (links_of o h a) (rev e)) (y ∙ ap (halves_of h).prev w)
            (l ∙ rw (k, g, y, w, R.to) refl ∙ sym (area-prev (position_of q) point three_back))
            ∙ sym (cw-by (le_read s (pos 0) u) o a)

-- ---- the ends of e
module _ {q : List ℤ} {h : List ℕ} {point : Point} {e : ℕ} (R : TurnReady q h point e) {u : ℕ} {f : Point} {m : Bool}
    (x : u ≡ (halves_of h).origin e) (y : f ≡ position_of q u) (i : m ≡ is_position f point) where
  first-test : is_position (position_of q ((halves_of h).origin e)) point ≡ m
  first-test = sym (i ∙ rw (y, x) refl)

  pub at-origin : m ≡ true → (o a : List ℕ) → Found (OnVertex u) ≡ search_turn (links_of o h a) (position_of q) point e
  unfolding search_turn links_of
  at-origin k o a = rw (first-test, k, x) refl

  module _ (n : m ≡ false) {w : ℕ} {t : Point} {l : Bool}
      (z : w ≡ (halves_of h).origin (rev e)) (k : t ≡ position_of q w) (j : l ≡ is_position t point) where
    second-test : is_position (position_of q ((halves_of h).origin (rev e))) point ≡ l
    second-test = sym (j ∙ rw (k, z) refl)

    pub at-to : l ≡ true → (o a : List ℕ) → Found (OnVertex w) ≡ search_turn (links_of o h a) (position_of q) point e
    unfolding search_turn links_of
    at-to b o a = rw (first-test, n, second-test, b, z) refl

    pub ends-ready : EndsReady q h point e f t
    ends-ready = record { turn = R; from = y ∙ ap (position_of q) x; to = k ∙ ap (position_of q) z }

    pub at-neither : l ≡ false → {r : SearchState} (o a : List ℕ)
        → r ≡ by_side (links_of o h a) (position_of q) point e
        → r ≡ search_turn (links_of o h a) (position_of q) point e
    unfolding search_turn links_of
    at-neither b o a g = g ∙ rw (first-test, n, second-test, b) refl
