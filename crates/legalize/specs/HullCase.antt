-- The tests of the Rust's two functions, and that in a good mesh each is the circle test of 01. So
-- `legalize_edges_after_removal` never flips for any other reason: its special case for edges next to the convex hull
-- does not arise, and no flip is left out. Assumes nothing.
-- 01: "If it flips for any reason but the circle test, that flip is left out and recorded."
use Rattle.std.specs.Prelude.{Bool, false, ◌≢◌, ◌≡◌, ◌<ℤ◌}
use Rattle.std.proofs.Math.Path.{refl, sym, ap}
use Rattle.std.proofs.Common.{◌∙◌, subst, arith}
use Prim.Native.Nat.{ℕ, zero, suc, ◌+◌, ◌*◌, ◌/◌, ◌<◌}
use Rattle.std.proofs.Math.Decide.{ℕ_discrete}
use borrow.Author.Tests.{lt-ltb}
use Rattle.std.proofs.Math.IntN.{pos}
use Rattle.std.specs.Int.Signed.{lt_z}
use Rattle.dcel.specs.declared.handles.Far.{Far}
use Rattle.dcel.specs.Far.{far_in, far_of}
use Rattle.math.specs.declared.Point.{Point}
use Rattle.math.specs.Determinant.{orient2d, incircle, is_ordered_ccw, contained_in_circumference}
use Rattle.math.proofs.Plane.{contained-next, hull-legal}
use Rattle.mesh.specs.declared.Counts.{Counts}
use Rattle.mesh.specs.Mesh.{Links, In, to}
use Rattle.mesh.specs.Area.{circle_at}
use Rattle.mesh.proofs.HeightLawsFacts.{even-half, circle-half, circle-rev}
use Rattle.mesh.proofs.LeftLaws.{left_at}
use Rattle.mesh.specs.Good.{Good}
use Rattle.mesh.specs.Circle.{breaks_circle}
use Rattle.mesh.proofs.CircleLawsFacts.{breaks}
use Rattle.sums.proofs.BitLaws.{is_true, is_false}
use Rattle.sums.specs.Half.{rev}
use Rattle.sums.proofs.HalfLaws.{rev-rev, rev-even, rev-below}

-- `should_flip` of `legalize_edges_after_removal`, of the far vertices left and right of an edge. With neither the Rust panics
unfoldable pub removal_test : (ℕ → Point) → Point → Point → Far → Far → Bool
removal_test p from to (Far.Vertex left) (Far.Vertex right) = contained_in_circumference from to (p left) (p right)
removal_test p from to Far.Outer (Far.Vertex right) = is_ordered_ccw (p right) from to
removal_test p from to (Far.Vertex left) Far.Outer = is_ordered_ccw (p left) to from
removal_test p from to Far.Outer Far.Outer = false

-- `should_flip` of `legalize_edge`, of v3, the far vertex of a half-edge, and v2, that of its reverse
unfoldable pub edge_test_of : (ℕ → Point) → Point → Point → Far → Far → Bool
edge_test_of p v0 v1 (Far.Vertex v3) (Far.Vertex v2) = contained_in_circumference (p v2) v1 v0 (p v3)
edge_test_of p v0 v1 Far.Outer v = false
edge_test_of p v0 v1 (Far.Vertex v3) Far.Outer = false

-- ---- the circle test from either half of an edge
either : (P : ℕ → Type 0) (e : ℕ) → P e → P (rev e) → P (2 * (e / 2)) × P (2 * (e / 2) + 1)
either P e a b = (even-half P e a b, rw (← rev-even (e / 2)) (even-half (λ x. P (rev x)) e b (rw (rev-rev e) a)))

both : (P : ℕ → Type 0) (e : ℕ) → P (2 * (e / 2)) → P (2 * (e / 2) + 1) → P e × P (rev e)
unfolding rev
both P e a b = go (ℕ_discrete e (2 * (e / 2)))
  where
    go : Dec (e ≡ 2 * (e / 2)) → P e × P (rev e)
    go (yes q) = (subst P (sym q) a, subst P (omega arith) b)
    go (no n) = (subst P (omega arith) b, subst P (omega arith) a)

module _ (L : Links) (p : ℕ → Point) (e : ℕ) where
  pub breaks-inner : 0 < L.face e → 0 < L.face (rev e) → breaks_circle L p (e / 2) ≡ lt_z (pos 0) (circle_at L p e)
  unfolding breaks_circle
  breaks-inner i j =
      let h = either (λ x. 0 < L.face x) e i j in
      rw (lt-ltb 0 (L.face (2 * (e / 2))) h.0, lt-ltb 0 (L.face (2 * (e / 2) + 1)) h.1) (ap (lt_z (pos 0)) (circle-half L p e))

  pub breaks-outer : (0 < L.face e → 0 < L.face (rev e) → ⊥) → breaks_circle L p (e / 2) ≡ false
  breaks-outer n = is_false _ (λ t.
      let B = breaks L p (e / 2) (is_true _ t) in
      let h = both (λ x. 0 < L.face x) e B.inner-left B.inner-right in n h.0 h.1)

  -- ---- `legalize_edge` asks that, for any links
  pub edge_test : edge_test_of p (p (L.origin e)) (p (to L e)) (far_of L e) (far_of L (rev e)) ≡ breaks_circle L p (e / 2)
  unfolding edge_test_of far_of far_in circle_at
  edge_test = go (L.face e) (L.face (rev e)) refl refl
    where
      go : (f g : ℕ) → L.face e ≡ f → L.face (rev e) ≡ g
          → edge_test_of p (p (L.origin e)) (p (to L e)) (far_in f (L.origin (L.prev e)))
          (far_in g (L.origin (L.prev (rev e)))) ≡ breaks_circle L p (e / 2)
      go (suc f) (suc g) a b =
          contained-next (p (L.origin (L.prev (rev e)))) (p (to L e)) (p (L.origin e)) (p (L.origin (L.prev e)))
          ∙ ap (lt_z (pos 0)) (ap (λ (x : ℕ). incircle (p (to L e)) (p (L.origin x)) (p (L.origin (L.prev (rev e)))) (p (L.origin (L.prev x)))) (sym (rev-rev e)) ∙ circle-rev L p e)
          ∙ sym (breaks-inner (omega arith) (omega arith))
      go zero g a b = sym (breaks-outer (λ i j. absurd (omega arith)))
      go (suc f) zero a b = sym (breaks-outer (λ i j. absurd (omega arith)))

outer-face : (f v : ℕ) → far_in f v ≡ Far.Outer → f ≡ 0
unfolding far_in
outer-face zero v e = refl
outer-face (suc f) v e = let z : ◌≡◌ {A = ℕ} 0 1 = cc in absurd (omega arith)

module _ {C : Counts} {L : Links} {p : ℕ → Point} (G : Good C L p) where
  -- `legalize_edges_after_removal`, from any half of an edge of a good mesh
  removal-test : {e : ℕ} → In C e → removal_test p (p (L.origin e)) (p (to L e)) (far_of L e) (far_of L (rev e)) ≡ breaks_circle L p (e / 2)
  unfolding removal_test far_of far_in circle_at
  removal-test {e} l = go (L.face e) (L.face (rev e)) refl refl
    where
      go : (f g : ℕ) → L.face e ≡ f → L.face (rev e) ≡ g
          → removal_test p (p (L.origin e)) (p (to L e)) (far_in f (L.origin (L.prev e)))
          (far_in g (L.origin (L.prev (rev e)))) ≡ breaks_circle L p (e / 2)
      go (suc f) (suc g) a b = sym (breaks-inner L p e (omega arith) (omega arith))
      go zero (suc g) a b =
          rw (hull-legal (p (to L e)) (p (L.origin e)) (p (L.origin (L.prev (rev e))))
          (subst (λ (x : ℕ). pos 0 <ℤ orient2d (p (to L e)) (p (L.origin x)) (p (L.origin (L.prev (rev e))))) (rev-rev e) (left_at G.wf G.turning (rev-below C.edges l) (omega arith))))
          (sym (breaks-outer L p e (λ i j. absurd (omega arith))))
      go (suc f) zero a b =
          rw (hull-legal (p (L.origin e)) (p (to L e)) (p (L.origin (L.prev e))) (left_at G.wf G.turning l (omega arith)))
          (sym (breaks-outer L p e (λ i j. absurd (omega arith))))
      go zero zero a b = sym (breaks-outer L p e (λ i j. absurd (omega arith)))

  -- the edge u as the Rust directs it
  pub no-flip-left-out : {u : ℕ} → u < C.edges
      → removal_test p (p (L.origin (2 * u))) (p (to L (2 * u))) (far_of L (2 * u)) (far_of L (rev (2 * u))) ≡ breaks_circle L p u
  no-flip-left-out {u} l = removal-test {e = 2 * u} (omega arith) ∙ ap (breaks_circle L p) (omega arith)

  -- the Rust's panic does not arise: an edge has an inner face on a side
  pub no-two-outer : {e : ℕ} → In C e → far_of L e ≡ Far.Outer → far_of L (rev e) ≢ Far.Outer
  unfolding far_of
  no-two-outer {e} l a b = let s = G.wf.faces.side l (outer-face _ _ a) in let z = outer-face _ _ b in absurd (omega arith)
