-- Laws of specs/CircleLaws.antt.
use Rattle.std.specs.Prelude.{Bool, true, false, ◌&&◌, ◌≢◌, ◌≡◌, ℕ, ◌+◌, ◌*◌, ◌/◌, ◌<◌, ltb, ℤ, pos, nat_abs, ◌<ℤ◌, ◌≤ℤ◌}
use Rattle.std.proofs.lemmas.Bool.{false≢true}
use Rattle.std.proofs.Common.{sym, ◌∙◌, ap, ap₂, subst, arith, lt→ltb}
use Rattle.std.proofs.Math.Path.{transport}
use borrow.Author.Tests.{lt-ltb}
use Rattle.std.proofs.Math.Dec.{ltb→lt, not_T}
use Rattle.std.specs.Int.Signed.{lt_z, lt_z_yes, lt_z_no, clash_ℤ}
use Rattle.algebra.proofs.Order.{lt-le}
use Rattle.math.specs.declared.Point.{Point}
use Rattle.math.specs.Determinant.{incircle, contained_in_circumference}
use Rattle.math.specs.Circle.{from_centre}
use Rattle.math.proofs.CircleLaws.{centre-next, radius-next, inside→, inside←}
use Rattle.sums.proofs.BitLaws.{and_left, and_right, and_both, is_true, is_false, from-true}
use Rattle.sums.specs.Half.{rev}
use Rattle.sums.proofs.HalfLaws.{rev-rev, rev-even}
use Rattle.mesh.specs.declared.Counts.{Counts}
use Rattle.mesh.specs.Mesh.{Links, In, to}
use Rattle.mesh.specs.Operations.{flip_cw}
use Rattle.mesh.specs.Frame.{SameBoundary}
use Rattle.mesh.specs.Flip.{Flippable}
use Rattle.mesh.proofs.FlipLaws.{flip-frame}
use Rattle.mesh.specs.Area.{height_sum, circle_at}
use Rattle.mesh.proofs.AreaCorners.{face-at}
use Rattle.mesh.proofs.LeftLaws.{left_at}
use Rattle.mesh.proofs.HeightLawsFacts.{circle-rev, even-half, circle-half}
use Rattle.mesh.specs.Good.{Good}
use Rattle.mesh.proofs.GoodLaws.{flippable, flip-good, flip-good-falls}
use Rattle.mesh.specs.Circle.{breaks_circle, Settled, InsideCircle, LocallyDelaunay}
use Rattle.mesh.specs.CircleLaws.{Breaks}

module _ (L : Links) (p : ℕ → Point) (u : ℕ) where
  abbrev left : Bool
  left = ltb 0 (L.face (2 * u))

  abbrev right : Bool
  right = ltb 0 (L.face (2 * u + 1))

  abbrev circle : Bool
  circle = lt_z (pos 0) (circle_at L p (2 * u))

  pub breaks : breaks_circle L p u ≡ true → Breaks L p u
  unfolding breaks_circle
  breaks e =
      let h = from-true e in
      let k = and_right left (right && circle) h in
      record { inner-left = ltb→lt 0 _ (and_left left (right && circle) h); inner-right = ltb→lt 0 _ (and_left right circle k); inside = lt_z_yes (and_right right circle k) }

  pub breaks-test : Breaks L p u → breaks_circle L p u ≡ true
  unfolding breaks_circle
  breaks-test B = is_true _ (and_both left (right && circle) (lt→ltb 0 _ B.inner-left) (and_both right circle (lt→ltb 0 _ B.inner-right) B.inside.lt))

  -- by cases, as the code goes
  pub outer-left : L.face (2 * u) ≡ 0 → breaks_circle L p u ≡ false
  unfolding breaks_circle
  outer-left e = rw e

  pub outer-right : L.face (2 * u + 1) ≡ 0 → breaks_circle L p u ≡ false
  unfolding breaks_circle
  outer-right e = is_false _ (λ t. let k : 0 < L.face (2 * u + 1) = ltb→lt 0 _ (and_left right circle (and_right left (right && circle) t)) in omega arith)

  pub both-inner : L.face (2 * u) ≢ 0 → L.face (2 * u + 1) ≢ 0
      → breaks_circle L p u
      ≡ contained_in_circumference (p (L.origin (2 * u))) (p (L.origin (2 * u + 1)))
      (p (L.origin (L.prev (2 * u)))) (p (L.origin (L.prev (2 * u + 1))))
  unfolding breaks_circle circle_at
  both-inner i j =
      rw (lt-ltb 0 (L.face (2 * u)) (omega arith), lt-ltb 0 (L.face (2 * u + 1)) (omega arith))
      (ap (λ (t : ℕ). lt_z (pos 0) (incircle (p (L.origin (2 * u))) (p (L.origin t)) (p (L.origin (L.prev (2 * u)))) (p (L.origin (L.prev t))))) (rev-even u))

  -- ---- from either side
  -- the determinant is the same seen from 2u and from 2u + 1
  pub circle-either-side : circle_at L p (2 * u + 1) ≡ circle_at L p (2 * u)
  circle-either-side = ap (circle_at L p) (sym (rev-even u)) ∙ circle-rev L p (2 * u)

-- ---- a settled mesh, half-edge by half-edge
module _ {C : Counts} {L : Links} {p : ℕ → Point} where
  -- the circle of the triangle of e does not strictly contain the neighbour's far vertex
  pub settled-half : Settled C L p → {e : ℕ} → In C e → 0 < L.face e → 0 < L.face (rev e) → circle_at L p e ≤ℤ pos 0
  settled-half S {e} l i j =
      let h = even-half (λ x. 0 < L.face x) e i j in
      let k = rw (rev-even (e / 2)) at (even-half (λ x. 0 < L.face (rev x)) e j (rw (rev-rev e) i)) in
      subst (λ (z : ℤ). z ≤ℤ pos 0) (circle-half L p e)
      (lt_z_no (not_T (lt_z (pos 0) (circle_at L p (2 * (e / 2)))) (λ t. false≢true (sym (S.edge {u = e / 2} (omega arith)) ∙ breaks-test L p (e / 2) (record { inner-left = h; inner-right = k; inside = lt_z_yes t })))))

  pub settled-by : ((e : ℕ) → In C e → 0 < L.face e → 0 < L.face (rev e) → circle_at L p e ≤ℤ pos 0) → Settled C L p
  settled-by h = record {
    edge = λ {u} l. is_false _ (λ t.
        let B = breaks L p u (is_true _ t) in
        clash_ℤ B.inside (h (2 * u) (omega arith) B.inner-left (subst (λ (x : ℕ). 0 < L.face x) (sym (rev-even u)) B.inner-right)));
  }

-- ---- by circles
-- by the determinant of the triangle's corners and the neighbour's far vertex
pub settled-incircle : {C : Counts} {L : Links} {p : ℕ → Point} → Settled C L p → {e : ℕ} → In C e → 0 < L.face e → 0 < L.face (rev e)
    → incircle (p (L.origin e)) (p (to L e)) (p (L.origin (L.prev e))) (p (L.origin (L.prev (rev e)))) ≤ℤ pos 0
unfolding circle_at
settled-incircle S l i j = settled-half S l i j

module _ {C : Counts} {L : Links} {p : ℕ → Point} (G : Good C L p) where
  -- the circle of the triangle of e, from e's own corners
  circle-at : {e : ℕ} → In C e → 0 < L.face e → (q : Point)
      → InsideCircle L p (L.face e) q
      ≡ (from_centre (p (L.origin e)) (p (to L e)) (p (L.origin (L.prev e))) q
      <ℤ from_centre (p (L.origin e)) (p (to L e)) (p (L.origin (L.prev e))) (p (L.origin e)))
  circle-at l i q =
      ap₂ (λ (x y : ℤ). x <ℤ y)
      (face-at G.wf (λ a b c. from_centre a b c q) p (λ a b c. centre-next a b c q) l i)
      (face-at G.wf (λ a b c. from_centre a b c a) p radius-next l i)

  -- THE CIRCLE RULE IS WHAT IT SAYS: a settled mesh is locally Delaunay, and one that is locally Delaunay is settled
  pub settled-far : Settled C L p → LocallyDelaunay C L p
  settled-far S = record {
    outside = λ {e} l i j h.
        clash_ℤ
        (inside← (p (L.origin e)) (p (to L e)) (p (L.origin (L.prev e))) (p (L.origin (L.prev (rev e)))) (left_at G.wf G.turning l i)
        (transport (circle-at l i (p (L.origin (L.prev (rev e))))) h))
        (settled-incircle S l i j);
  }

  pub far-settled : LocallyDelaunay C L p → Settled C L p
  unfolding circle_at
  far-settled D = settled-by (λ e l i j.
      lt_z_no (not_T (lt_z (pos 0) (circle_at L p e)) (λ t.
      D.outside l i j
      (transport (sym (circle-at l i (p (L.origin (L.prev (rev e))))))
      (inside→ (p (L.origin e)) (p (to L e)) (p (L.origin (L.prev e))) (p (L.origin (L.prev (rev e)))) (left_at G.wf G.turning l i) (lt_z_yes t))))))

-- ---- the flip of an edge that breaks the rule
module _ {C : Counts} {L : Links} {p : ℕ → Point} (G : Good C L p) {u : ℕ} (l : u < C.edges) (B : Breaks L p u) where
  pub breaks-flippable : Flippable C L u
  breaks-flippable = flippable G l B.inner-left B.inner-right

  pub breaks-good : Good C (flip_cw L u) p
  breaks-good = flip-good G breaks-flippable (lt-le B.inside)

  pub breaks-falls : nat_abs (height_sum C (flip_cw L u) p) < nat_abs (height_sum C L p)
  breaks-falls = flip-good-falls G breaks-flippable B.inside

  pub breaks-boundary : SameBoundary C L (flip_cw L u)
  breaks-boundary = (flip-frame G.wf u breaks-flippable).boundary
