-- Laws of specs/Center.antt.
use Rattle.std.specs.Prelude.{◌≡◌, ◌||◌, ℤ, pos, negsuc, nat_abs, Float}
use Rattle.std.proofs.Common.{sym, subst, arith}
use Rattle.std.proofs.Math.Bool.{Bool, not}
use Prim.Native.Nat.{ℕ, ◌^◌, ◌<◌, ◌≤◌}
use Rattle.std.proofs.Math.Dec.{T, T_not, not_T}
use Rattle.std.specs.Float.{binary64}
use Rattle.std.specs.Float.Ieee.{fits}
use Rattle.std.specs.Int.Signed.{mag}
use Rattle.angle.specs.Angle.{angle_about, at_center, valid_center, turns, IsAngle}
use Rattle.angle.proofs.Center.{about-is-angle}
use Rattle.math.specs.declared.Point.{Point}
use Rattle.math.specs.Determinant.{InRange}
use Rattle.mesh.specs.declared.Counts.{Counts}
use Rattle.mesh.specs.Mesh.{Links, In}
use Rattle.mesh.specs.Wf.{Wf}
use Rattle.mesh.specs.Area.{boundary_length, hull_edge}
use Rattle.mesh.proofs.BoundaryLaws.{first<, first-outer}
use Rattle.sums.proofs.BitLaws.{or_left, or_right, sure}
use Rattle.sums.specs.Bounded.{any_below}
use Rattle.sums.proofs.BoundedLaws.{any-below←}
use Rattle.ring.specs.Ring.{full_turn, edge_angle, is_strict_ring}
use Rattle.ring.proofs.Boundary.{outer-on}
use Rattle.ring.specs.Center.{turns_about, refuses_center}

-- ---- an accepted centre
mag-range : (z : ℤ) → nat_abs z ≤ 16777216 → mag z < 2 ^ 31
mag-range (pos n) h = omega (arith, h)
mag-range (negsuc n) h = omega (arith, h)

module _ {C : Counts} {L : Links} (W : Wf C L) (p : ℕ → Point) (range : (v : ℕ) → v < C.vertices → InRange (p v))
    (cx cy : Float) (fx : T (fits binary64 cx)) (fy : T (fits binary64 cy))
    (ok : T (not (refuses_center C L p cx cy))) {e : ℕ} (l : In C e) (o : L.face e ≡ 0) where
  -- gives a boundary vertex an angle
  pub boundary-angle : IsAngle (angle_about (p (L.origin e)).x (p (L.origin e)).y cx cy)
  unfolding refuses_center
  boundary-angle =
      let v = L.origin e in
      let R = range v (W.ranges.origin< l) in
      let n = boundary_length C L in
      let off = not (valid_center cx cy) in
      let at : ℕ → Bool = λ k. at_center (p (L.origin (hull_edge L k))).x (p (L.origin (hull_edge L k))).y cx cy in
      about-is-angle (p v).x (p v).y cx cy (mag-range (p v).x R.x) (mag-range (p v).y R.y) fx fy
      (sure (valid_center cx cy) (λ t. T_not (off || any_below n at) ok (or_left off (any_below n at) t)))
      (not_T (at_center (p v).x (p v).y cx cy) (λ t. (let r = outer-on W (first< W) (first-outer W) l o in
      T_not (off || any_below n at) ok
      (or_right off (any_below n at) (any-below← n at r.0 r.1 (subst (λ (d : ℕ). T (at_center (p (L.origin d)).x (p (L.origin d)).y cx cy)) (sym r.2) t))))))

  -- up to 1.0
  pub boundary-low : edge_angle L (turns_about cx cy p) e ≤ full_turn
  unfolding turns_about
  boundary-low = boundary-angle.small
