-- A good mesh to walk on has one peak and a convex boundary, so what lies beyond a boundary edge is in no triangle. Assumes nothing.
use Rattle.std.specs.Prelude.{◌≡◌, Bool, not, ◌&&◌, ◌||◌, ℕ, ◌<◌, ℤ, pos, ◌-ℤ◌, ◌<ℤ◌}
use Rattle.std.proofs.Common.{sym, ap₂, arith}
use Rattle.std.proofs.Math.Dec.{not_T}
use Rattle.std.specs.Int.Signed.{lt_z, le_z, lt_z_yes, le_z_yes, lt_z_no, clash_ℤ}
use Rattle.algebra.proofs.Order.{lt-sub, sub-lt, le-sub, sub-le}
use Rattle.sums.specs.Bit.{test-ext}
use Rattle.sums.proofs.BoundedLaws.{count-ext}
use Rattle.math.specs.declared.Point.{Point}
use Rattle.math.specs.Determinant.{orient2d}
use Rattle.math.specs.Vector.{difference}
use Rattle.mesh.specs.declared.Counts.{Counts}
use Rattle.mesh.specs.Mesh.{Links, In, to}
use Rattle.mesh.specs.Area.{boundary_length, hull_edge}
use Rattle.mesh.specs.Good.{Good}
use Rattle.outline.specs.Outline.{upper, direction, falls_next, full_circles, count_boundary, BoundaryHull}
use Rattle.outline.proofs.MeshHull.{one-full-circle-hull}
use Rattle.covering.specs.Holds.{HoldsAt}
use Rattle.walkable.specs.Hull.{Convex}
use Rattle.walkable.proofs.HullLaws.{outside}
use Rattle.walkable.specs.Winding.{upward, OnePeak, peak, peaks}
use Rattle.walkable.proofs.WindingLaws.{one-peak}
use Rattle.walkable.specs.Walkable.{Walkable}

-- ---- the two readings of the upper half
lt_test : (a b : ℤ) → lt_z (pos 0) (b -ℤ a) ≡ lt_z a b
lt_test a b = test-ext (lt_z (pos 0) (b -ℤ a)) (lt_z a b) (λ t. (sub-lt a b (lt_z_yes t)).lt) (λ t. (lt-sub (lt_z_yes {a = a} {b = b} t)).lt)

le_test : (a b : ℤ) → le_z (pos 0) (b -ℤ a) ≡ not (lt_z b a)
le_test a b = test-ext (le_z (pos 0) (b -ℤ a)) (not (lt_z b a))
    (λ t. not_T (lt_z b a) (λ s. clash_ℤ (lt_z_yes {a = b} {b = a} s) (sub-le a b (le_z_yes t)))) (λ t. (le-sub (lt_z_no {a = b} {b = a} t)).le)

upper-upward : (a b : Point) → upper (difference b a) ≡ upward a b
unfolding upper difference
upper-upward a b =
    ap₂ (λ (s t : Bool). s || t) (lt_test a.y b.y) (ap₂ (λ (s t : Bool). s && t) (le_test a.y b.y) (lt_test a.x b.x))

peaks-circles : (C : Counts) (L : Links) (p : ℕ → Point) → peaks C L p ≡ full_circles C L p
unfolding peaks count_boundary falls_next direction
peaks-circles C L p = count-ext (boundary_length C L) (λ k. peak L p (hull_edge L k)) (λ k. falls_next L p (hull_edge L k))
    (λ k l. let e = hull_edge L k in
    sym (ap₂ (λ (s t : Bool). s && not t) (upper-upward (p (L.origin e)) (p (to L e))) (upper-upward (p (L.origin (L.next e))) (p (to L (L.next e))))))

pub hull-convex : {C : Counts} {L : Links} {p : ℕ → Point} → BoundaryHull C L p → Convex C L p
hull-convex H = record { hull = λ {e} l o. record { right = λ {e = x} m q. H.hull l o m q } }

module _ {C : Counts} {L : Links} {p : ℕ → Point} (G : Good C L p) (K : Walkable C L p) where
  pub walkable-peak : OnePeak C L p
  walkable-peak = one-peak G.wf (let a = peaks-circles C L p in let b = K.once in omega arith)

  pub walkable-convex : Convex C L p
  walkable-convex = hull-convex (one-full-circle-hull G.wf K.corners K.ahead K.once)

  -- a walk that crosses a boundary edge has its position in no triangle
  pub leaving-outside : {e : ℕ} → In C e → L.face e ≡ 0 → {z : Point} → pos 0 <ℤ orient2d (p (L.origin e)) (p (to L e)) z
      → {x : ℕ} → In C x → 0 < L.face x → HoldsAt L p z x → ⊥
  leaving-outside = outside G.wf G.turning walkable-convex
