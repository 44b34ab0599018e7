-- The boundary of a mesh that keeps the rules is the hull of its vertices, where no corner turns left or goes straight back and its
-- directions turn through one full circle.
-- Assumes nothing.
use Rattle.std.specs.Prelude.{◌≡◌, ◌⊎◌, Bool, ◌&&◌, ℕ, suc, ◌≤◌, ◌<◌, ℤ, ◌<ℤ◌, ◌≤ℤ◌}
use Rattle.std.proofs.Math.Path.{sym, ap, subst₂}
use Rattle.std.proofs.Common.{◌∙◌, subst, inl, inr}
use Rattle.std.proofs.Math.Bool.{not}
use native.Mathlib.Omega.{arith}
use Rattle.std.proofs.Math.IntN.{pos, nat_abs}
use Rattle.std.specs.Int.Signed.{clash_ℤ}
use Rattle.math.specs.declared.Point.{Point}
use Rattle.math.specs.declared.Vector.{Vector}
use Rattle.math.specs.Determinant.{orient2d}
use Rattle.math.specs.Vector.{difference, cross_of, dot_of}
use Rattle.sums.specs.Bit.{bit}
use Rattle.sums.specs.Bounded.{count}
use Rattle.sums.proofs.BoundedLaws.{count-ext}
use Rattle.sums.specs.Iterate.{iter}
use Rattle.sums.proofs.IterateLaws.{iter-last, iter-keeps, sum-round, reach-on}
use Rattle.sums.proofs.SumLaws.{count-sum}
use Rattle.mesh.specs.declared.Counts.{Counts}
use Rattle.mesh.specs.Mesh.{Links, In, to}
use Rattle.mesh.specs.Wf.{Wf}
use Rattle.mesh.specs.Area.{boundary_length, hull_edge, at_corners}
use Rattle.mesh.proofs.BoundaryLaws.{next-inverse, first<, first-outer, boundary-period, outer-period}
use Rattle.convexity.specs.Convexity.{NoLeftCorner}
use Rattle.outline.specs.Outline.{upper, count_boundary, direction, falls_next, full_circles, NoneStraightBack, BoundaryHull}
use Rattle.outline.proofs.OutlineLaws.{falls}
use Rattle.outline.proofs.VectorLaws.{cross-along, three-signs}
use Rattle.outline.proofs.HalfPlaneLaws.{RightTurn}
use Rattle.outline.proofs.CircleHull.{turned_right}

module _ {C : Counts} {L : Links} (W : Wf C L) where
  -- a count around the boundary is the same from each of its half-edges
  pub count-from : (t : ℕ → Bool) {e : ℕ} → In C e → L.face e ≡ 0
      → count (boundary_length C L) (λ k. t (iter k L.next e)) ≡ count_boundary C L t
  unfolding count_boundary
  count-from t {e} l o = ap nat_abs (
      count-sum (boundary_length C L) (λ k. t (iter k L.next e))
      ∙ sum-round (boundary_length C L) (λ x. pos (bit (t x))) (boundary-period W).back (W.faces.outer (first< W) l (first-outer W) o)
      ∙ sym (count-sum (boundary_length C L) (λ k. t (hull_edge L k))))

  -- ---- the walk along next from a boundary half-edge e
  module _ (p : ℕ → Point) {e : ℕ} (l : In C e) (o : L.face e ≡ 0) where
    -- the position at the start of its k-th half-edge
    q : ℕ → Point
    q k = p (L.origin (iter k L.next e))

    x-in : (k : ℕ) → In C (iter k L.next e) × (L.face (iter k L.next e) ≡ 0)
    x-in k = iter-keeps (λ d. In C d × (L.face d ≡ 0)) (λ d m. (W.ranges.next< m.0, W.links.face-next m.0 ∙ m.1)) k (l, o)

    q-next : (k : ℕ) → q (suc k) ≡ p (L.origin (L.next (iter k L.next e)))
    unfolding q
    q-next k = ap (λ (d : ℕ). p (L.origin d)) (iter-last k L.next e)

    q-next₂ : (k : ℕ) → q (suc (suc k)) ≡ p (L.origin (L.next (L.next (iter k L.next e))))
    unfolding q
    q-next₂ k = ap (λ (d : ℕ). p (L.origin d)) (iter-last (suc k) L.next e ∙ ap L.next (iter-last k L.next e))

    q-to : (k : ℕ) → q (suc k) ≡ p (to L (iter k L.next e))
    q-to k = q-next k ∙ ap p (W.links.origin-next (x-in k).0)

    q_back : q (boundary_length C L) ≡ q 0
    unfolding q
    q_back = ap (λ (d : ℕ). p (L.origin d)) (outer-period W l o).back

    q-back₁ : q (suc (boundary_length C L)) ≡ q 1
    unfolding q
    q-back₁ = ap (λ (d : ℕ). p (L.origin d)) (iter-last (boundary_length C L) L.next e ∙ ap L.next (outer-period W l o).back)

    q-at : (k : ℕ) → orient2d (q k) (q (suc k)) (q (suc (suc k))) ≡ at_corners orient2d L p (iter k L.next e)
    unfolding q
    q-at k = ap (λ (a : Point). orient2d (q k) a (q (suc (suc k)))) (q-next k) ∙ ap (orient2d (q k) (p (L.origin (L.next (iter k L.next e))))) (q-next₂ k)

    q-corner : NoLeftCorner C L p → (k : ℕ) → orient2d (q k) (q (suc k)) (q (suc (suc k))) ≤ℤ pos 0
    q-corner N k = subst (λ (z : ℤ). z ≤ℤ pos 0) (sym (q-at k)) (N.corner (x-in k).0 (x-in k).1)

    -- the vertex of every other boundary half-edge is met
    met : {d : ℕ} → In C d → L.face d ≡ 0 → ((j : ℕ) → j ≤ boundary_length C L → orient2d (q 0) (q 1) (q j) ≤ℤ pos 0)
        → orient2d (p (L.origin e)) (p (to L e)) (p (L.origin d)) ≤ℤ pos 0
    unfolding q
    met {d} m i all =
        let r = reach-on (next-inverse W) l (outer-period W l o) (W.faces.outer l m o i) in
        let u = r.1 in
        subst₂ (λ (a b : Point). orient2d (p (L.origin e)) a b ≤ℤ pos 0) (q-to 0) (ap (λ (f : ℕ). p (L.origin f)) r.2) (all r.0 (omega arith))

    -- ---- the directions
    d : ℕ → Vector
    d k = difference (q (suc k)) (q k)

    d-here : (k : ℕ) → direction L p (iter k L.next e) ≡ d k
    unfolding d q direction
    d-here k = ap (λ (a : Point). difference a (p (L.origin (iter k L.next e)))) (sym (q-to k))

    d-next : (k : ℕ) → direction L p (L.next (iter k L.next e)) ≡ d (suc k)
    d-next k = ap (direction L p) (sym (iter-last k L.next e)) ∙ d-here (suc k)

    d-turn : NoLeftCorner C L p → NoneStraightBack C L p → (k : ℕ) → RightTurn (d k) (d (suc k))
    unfolding d
    d-turn N B k = go (three-signs (orient2d (q k) (q (suc k)) (q (suc (suc k)))))
      where
        along : cross_of (difference (q (suc k)) (q k)) (difference (q (suc (suc k))) (q (suc k)))
            ≡ orient2d (q k) (q (suc k)) (q (suc (suc k)))
        along = cross-along (q k) (q (suc k)) (q (suc (suc k)))

        corner : orient2d (q k) (q (suc k)) (q (suc (suc k))) ≡ at_corners orient2d L p (iter k L.next e)
        corner = q-at k

        go : (orient2d (q k) (q (suc k)) (q (suc (suc k))) <ℤ pos 0)
            ⊎ ((orient2d (q k) (q (suc k)) (q (suc (suc k))) ≡ pos 0) ⊎ (pos 0 <ℤ orient2d (q k) (q (suc k)) (q (suc (suc k)))))
            → RightTurn (difference (q (suc k)) (q k)) (difference (q (suc (suc k))) (q (suc k)))
        go (inl h) = inl (subst (λ (z : ℤ). z <ℤ pos 0) (sym along) h)
        go (inr (inl h)) = inr (record { parallel = along ∙ h; ahead = subst₂ (λ (u v : Vector). pos 0 <ℤ dot_of u v) (d-here k) (d-next k) (B.ahead (x-in k).0 (x-in k).1 (sym corner ∙ h)) })
        go (inr (inr h)) = clash_ℤ h (q-corner N k)

    circle-least : full_circles C L p ≡ 1 → count (boundary_length C L) (falls (λ k. upper (difference (q (suc k)) (q k)))) ≤ 1
    unfolding d falls_next
    circle-least h =
        let g = count-from (falls_next L p) l o ∙ h in
        let s = count-ext (boundary_length C L) (λ k. falls_next L p (iter k L.next e)) (falls (λ k. upper (difference (q (suc k)) (q k))))
        (λ k u. ap (λ (a : Vector). upper a && not (upper (direction L p (L.next (iter k L.next e))))) (d-here k) ∙ ap (λ (a : Vector). upper (d k) && not (upper a)) (d-next k)) in
        omega arith

    circle-hull : NoLeftCorner C L p → NoneStraightBack C L p → full_circles C L p ≡ 1 → {d : ℕ} → In C d → L.face d ≡ 0
        → orient2d (p (L.origin e)) (p (to L e)) (p (L.origin d)) ≤ℤ pos 0
    unfolding d
    circle-hull N B once m i = met m i (turned_right (boundary_length C L) q q_back q-back₁ (d-turn N B) (circle-least once))

  -- THE BOUNDARY IS A HULL where its directions turn right through one full circle
  pub one-full-circle-hull : {p : ℕ → Point} → NoLeftCorner C L p → NoneStraightBack C L p → full_circles C L p ≡ 1 → BoundaryHull C L p
  one-full-circle-hull {p} N B once = record { hull = λ l o m i. circle-hull p l o N B once m i }
