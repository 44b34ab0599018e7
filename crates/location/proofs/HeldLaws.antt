-- Where a point is strictly left of no boundary edge, some triangle holds it. Some boundary edge has it strictly
-- right, since the triangles' areas are positive; seen from the point with that edge's start due east, the edge crosses
-- the ray to the east and no boundary edge crosses it the other way, so the crossings of some triangle total more than
-- 0.
-- Assumes nothing.
use Rattle.std.specs.Prelude.{◌≡◌, ℤ, negsuc, ◌+ℤ◌, ◌<ℤ◌, ◌≤ℤ◌}
use Rattle.std.proofs.Math.Path.{refl, subst}
use Rattle.std.proofs.Common.{sym, ◌∙◌, ap, arith}
use mathlib.Core.List.{[], ◌∷◌}
use Prim.Native.Nat.{ℕ, suc, ◌-◌, ◌<◌}
use Rattle.std.proofs.Math.IntN.{pos}
use Rattle.std.specs.Int.Signed.{lt_z_yes}
use Rattle.algebra.specs.Ring.{◌⊕◌, ⊝◌}
use Rattle.algebra.proofs.RingLaws.{#◌, v0, v1, ring}
use Rattle.algebra.proofs.Sign.{◌+⁺◌, pos-in, lt_in, lt_by, eq-in, zero°}
use Rattle.sums.specs.Half.{rev}
use Rattle.sums.proofs.SumLaws.{sum-positive}
use Rattle.math.specs.declared.Point.{Point}
use Rattle.math.specs.Determinant.{Orient2d, orient2d}
use Rattle.math.proofs.Plane.{E·, A, B, C, D, env, orient2d-swap}
use Rattle.mesh.specs.declared.Counts.{Counts}
use Rattle.mesh.specs.Mesh.{Links, In, to}
use Rattle.mesh.specs.Wf.{Wf}
use Rattle.mesh.specs.Triangle.{rev-in}
use Rattle.mesh.specs.Area.{at_corners, LeftTurning, boundary_length, hull_edge}
use Rattle.mesh.proofs.BoundaryLaws.{inner-stored, three_back, first<, first-outer, boundary-below, boundary-outer, boundary-all}
use Rattle.mesh.specs.Cochain.{Cochain, circulation, inner_circulation, boundary_circulation}
use Rattle.mesh.proofs.Stokes.{stokes}
use Rattle.covering.specs.Crossing.{crossing, edge_crossing}
use Rattle.covering.specs.CrossingLaws.{crossing-cochain}
use Rattle.covering.specs.Holds.{HoldsFace}
use Rattle.location.specs.Place.{area_at, LeftOf}
use Rattle.location.proofs.SearchLaws.{area-rev}
use Rattle.location.specs.Spun.{spun, spread}
use Rattle.location.proofs.SpunLaws.{spread-positive, spun-east, spun-low, spun-left, spun-left←, spun-holds←, spun-turning}
use Rattle.location.proofs.Crossed.{crossing_most, crossing-falls, crossed-holds}
use Rattle.sums.proofs.SumSign.{sum-some-negative, sum-some-positive, sum-falls}

-- the areas of a point with the three edges total the triangle's
areas : (q a b c : Point) → orient2d a b q +ℤ orient2d b c q +ℤ orient2d c a q ≡ orient2d a b c
unfolding orient2d
areas q a b c = ring (env a b c q) (Orient2d E· A B D ⊕ Orient2d E· B C D ⊕ Orient2d E· C A D) (Orient2d E· A B C) refl

module _ {C : Counts} {L : Links} (W : Wf C L) where
  -- round an inner face
  pub circulation-corners : (g : Point → Point → ℤ) (p : ℕ → Point) {f : ℕ} → 0 < f → f < C.faces
      → circulation L (λ e. g (p (L.origin e)) (p (to L e))) (L.adjacent f)
      ≡ at_corners (λ a b c. g a b +ℤ g b c +ℤ g c a) L p (L.adjacent f)
  circulation-corners g p {f} i l =
      let a = L.adjacent f in
      let m = W.ranges.adjacent< l in
      let n = W.ranges.next< m in
      let o = W.ranges.next< n in
      let e₁ = W.links.origin-next m in let e₂ = W.links.origin-next n in
      let e₃ : L.origin a ≡ L.origin (rev (L.next (L.next a))) = ap L.origin (sym (three_back W m (inner-stored W i l))) ∙ W.links.origin-next o in
      rw (← e₁, ← e₂, ← e₃)

  area-cochain : (p : ℕ → Point) (q : Point) → Cochain C (area_at L p q)
  area-cochain p q = record { odd = λ {e} l. area-rev L p q e }

  -- there is an inner face
  pub some-inner : 0 < C.faces - 1
  some-inner = let i = W.faces.side (first< W) (first-outer W) in let l = W.ranges.face< (rev-in C (first< W)) in omega arith

  module _ {p : ℕ → Point} (turning : LeftTurning C L p) (q : Point) where
    -- some boundary edge has q strictly right
    pub some_right : (e : ℕ) × In C e × (L.face e ≡ 0) × (area_at L p q e <ℤ pos 0)
    unfolding inner_circulation boundary_circulation
    some_right =
        let up : pos 0 <ℤ inner_circulation C L (area_at L p q) = sum-positive (C.faces - 1) (λ f. circulation L (area_at L p q) (L.adjacent (suc f))) some-inner
        (λ f l. subst (λ (z : ℤ). pos 0 <ℤ z)
        (sym (circulation-corners (λ a b. orient2d a b q) p {f = suc f} (omega arith) (omega arith) ∙ areas q _ _ _))
        (turning.left {f = suc f} (omega arith) (omega arith))) in
        let ρ = inner_circulation C L (area_at L p q) ∷ boundary_circulation C L (area_at L p q) ∷ [] in
        let down : boundary_circulation C L (area_at L p q) <ℤ pos 0 = lt_by (pos-in ρ v0 up +⁺ zero° (eq-in ρ (⊝ v1) v0 (sym (stokes W (area-cochain p q))))) v1 (# 0) refl in
        let r = sum-some-negative (boundary_length C L) (λ k. area_at L p q (hull_edge L k)) down in
        (hull_edge L r.0, boundary-below W r.0, boundary-outer W r.0, r.2)

    -- THE SCAN HITS
    pub held : ((e : ℕ) → In C e → L.face e ≡ 0 → LeftOf L p q e → ⊥) → (f : ℕ) × HoldsFace C L p q f
    unfolding inner_circulation boundary_circulation
    held none = hit
      where
        e : ℕ
        e = some_right.0

        r : Point
        r = p (L.origin e)

        out : area_at L p q e <ℤ pos 0
        out = some_right.3

        N : pos 0 <ℤ spread r q
        N = spread-positive r (p (to L e)) q out

        p' : ℕ → Point
        p' v = spun r q (p v)

        q' : Point
        q' = spun r q q

        most : (d : ℕ) → In C d → L.face d ≡ 0 → edge_crossing L p' q' d ≤ℤ pos 0
        most d l o = crossing_most q' (p' (L.origin d)) (p' (to L d)) (λ h. none d l o (spun-left← r q N (p (L.origin d)) (p (to L d)) q h))

        falls : edge_crossing L p' q' e ≡ negsuc 0
        falls = crossing-falls q' (p' (L.origin e)) (p' (to L e)) (spun-east r q) (spun-low r (p (to L e)) q out)
            (spun-left r q N (p (to L e)) r q (let σ = orient2d r (p (to L e)) q ∷ [] in subst (λ (z : ℤ). pos 0 <ℤ z) (sym (orient2d-swap r (p (to L e)) q)) (lt_by (lt_in σ v0 (# 0) out) (# 0) (⊝ v0) refl)))

        down : boundary_circulation C L (edge_crossing L p' q') <ℤ pos 0
        down =
            let at = boundary-all W some_right.1 some_right.2 in
            sum-falls (boundary_length C L) (λ k. edge_crossing L p' q' (hull_edge L k)) (λ k l. most (hull_edge L k) (boundary-below W k) (boundary-outer W k)) {k = at.0} at.1
            (subst (λ (d : ℕ). edge_crossing L p' q' d <ℤ pos 0) (sym at.2) (subst (λ (z : ℤ). z <ℤ pos 0) (sym falls) (lt_z_yes tt)))

        up : pos 0 <ℤ inner_circulation C L (edge_crossing L p' q')
        up =
            let ρ = inner_circulation C L (edge_crossing L p' q') ∷ boundary_circulation C L (edge_crossing L p' q') ∷ [] in
            lt_by (lt_in ρ v1 (# 0) down +⁺ zero° (eq-in ρ v0 (⊝ v1) (stokes W (crossing-cochain L p' q')))) (# 0) v0 refl

        hit : (f : ℕ) × HoldsFace C L p q f
        hit =
            let s = sum-some-positive (C.faces - 1) (λ f. circulation L (edge_crossing L p' q') (L.adjacent (suc f))) up in
            let f = suc s.0 in
            let l = s.1 in
            let i : 0 < f = omega arith in
            let b : f < C.faces = omega arith in
            let a = L.adjacent f in
            let m = W.ranges.adjacent< b in
            let k = subst (λ (z : ℤ). pos 0 <ℤ z) (circulation-corners (crossing q') p' i b) s.2 in
            let H = spun-holds← r q N q _ _ _ (crossed-holds q' _ _ _ ((spun-turning r q N turning).left i b) k) in
            (f, record { inner = i; below = b; holds = rw (← W.links.origin-next m, ← W.faces.three m (inner-stored W i b)) H })
