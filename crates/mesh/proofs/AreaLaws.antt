-- The area theorem: the inner faces' doubled areas total the boundary's doubled area. It is `stokes` of the cross
-- products of the half-edges' ends. Assumes nothing.
use Rattle.std.specs.Prelude.{◌≡◌, refl, [], ◌∷◌, eqb, ℤ, ◌+ℤ◌}
use Rattle.std.proofs.Math.Path.{sym, ap}
use Rattle.std.proofs.Common.{◌∙◌, ap₂}
use Prim.Native.Nat.{ℕ, suc, ◌-◌, ◌*◌, ◌<◌}
use native.Mathlib.Omega.{arith}
use Rattle.std.proofs.Math.IntN.{neg_ℤ, +ℤ_idl, neg_ℤ-neg_ℤ}
use Rattle.algebra.specs.Ring.{◌⊖◌, ◌⊗◌, ⊝◌}
use Rattle.algebra.proofs.RingLaws.{v0, v1, v2, v3, ring}
use Rattle.math.specs.declared.Point.{Point}
use Rattle.math.specs.Determinant.{orient2d}
use Rattle.math.proofs.Plane.{orient2d-cross}
use Rattle.sums.proofs.HalfLaws.{rev-rev}
use Rattle.sums.specs.Iterate.{iter}
use Rattle.sums.proofs.IterateLaws.{iter-last, iter-keeps, period-three}
use Rattle.sums.specs.Sum.{sum}
use Rattle.sums.proofs.SumLaws.{sum-ext, sum-neg, only}
use Rattle.mesh.specs.declared.Counts.{Counts}
use Rattle.mesh.specs.Mesh.{Links, In}
use Rattle.mesh.specs.Wf.{Wf}
use Rattle.mesh.specs.Area.{boundary_length, boundary_area, cross, at_corners, over_faces, area_total}
use Rattle.mesh.proofs.BoundaryLaws.{first<, first-outer, boundary-period, inner-stored, three_back, outer-period, along-next, along-prev}
use Rattle.mesh.specs.Cochain.{Cochain, inner_circulation, boundary_circulation}
use Rattle.mesh.proofs.Stokes.{stokes}
use Rattle.mesh.specs.Triangle.{rev-in}

pub cross-back : (a b : Point) → cross a b ≡ neg_ℤ (cross b a)
unfolding cross
cross-back a b = ring (a.x ∷ a.y ∷ b.x ∷ b.y ∷ []) (v0 ⊗ v3 ⊖ v1 ⊗ v2) (⊝ (v2 ⊗ v1 ⊖ v3 ⊗ v0)) refl

-- a doubled area is the sum of its sides' cross products
pub area-cross : (a b c : Point) → orient2d a b c ≡ cross a b +ℤ cross b c +ℤ cross c a
unfolding cross
area-cross a b c = orient2d-cross a b c

module _ {C : Counts} {L : Links} (W : Wf C L) (p : ℕ → Point) where
  -- a half-edge's part of the area to its left
  abbrev part : ℕ → ℤ
  part e = cross (p (L.origin e)) (p (L.origin (L.next e)))

  -- a cycle of three has its parts' area
  pub three-parts : (e : ℕ) → L.next (L.next (L.next e)) ≡ e
      → part e +ℤ part (L.next e) +ℤ part (L.next (L.next e)) ≡ at_corners orient2d L p e
  three-parts e q =
      ap (λ (d : ℕ). part e +ℤ part (L.next e) +ℤ cross (p (L.origin (L.next (L.next e)))) (p (L.origin d))) q
      ∙ sym (area-cross (p (L.origin e)) (p (L.origin (L.next e))) (p (L.origin (L.next (L.next e)))))

  -- the reverse's part is the other way round
  part-cochain : Cochain C part
  part-cochain = record {
    odd = λ {e} l.
        ap₂ (λ (m n : ℕ). cross (p m) (p n)) (sym (W.links.origin-next l))
        (W.links.origin-next (rev-in C l) ∙ ap L.origin (rev-rev e))
        ∙ cross-back (p (L.origin (L.next e))) (p (L.origin e));
  }

  -- the parts of the half-edges of face 0
  outer_parts : ℤ
  outer_parts = sum (2 * C.edges) (λ e. only (eqb (L.face e) 0) (part e))

  inner-outer : area_total C L p ≡ neg_ℤ outer_parts
  unfolding outer_parts over_faces inner_circulation boundary_circulation
  inner-outer =
      sum-ext (C.faces - 1) (λ f l. let m : suc f < C.faces = omega arith in
      sym (three-parts (L.adjacent (suc f)) (three_back W (W.ranges.adjacent< m) (inner-stored W (omega arith) m))))
      ∙ stokes W part-cochain ∙ ap neg_ℤ (sym (along-next W (first< W) (first-outer W) (boundary-period W) part))

  boundary-outer : boundary_area C L p ≡ neg_ℤ outer_parts
  unfolding outer_parts boundary_area
  boundary-outer =
      sum-ext (boundary_length C L) (λ k l. back k)
      ∙ sum-neg (boundary_length C L) (λ k. part (iter k L.prev (L.prev (L.adjacent 0))))
      ∙ ap neg_ℤ (sym (along-prev W (W.ranges.prev< (first< W)) outer (outer-period W (W.ranges.prev< (first< W)) outer) part))
    where
      outer : L.face (L.prev (L.adjacent 0)) ≡ 0
      outer = sym (W.links.face-next (W.ranges.prev< (first< W))) ∙ ap L.face (W.links.next-prev (first< W)) ∙ first-outer W

      back : (k : ℕ) → let e = iter k L.prev (L.adjacent 0) in
          cross (p (L.origin e)) (p (L.origin (L.prev e))) ≡ neg_ℤ (part (iter k L.prev (L.prev (L.adjacent 0))))
      back k =
          let a = L.adjacent 0 in let x = iter k L.prev a in
          cross-back (p (L.origin x)) (p (L.origin (L.prev x)))
          ∙ ap neg_ℤ (ap (λ (n : ℕ). cross (p (L.origin (L.prev x))) (p (L.origin n))) (sym (W.links.next-prev (iter-keeps (In C) (λ e l. W.ranges.prev< l) k (first< W))))
          ∙ ap part (sym (iter-last k L.prev a)))

  -- a boundary of three, from any of its half-edges: along next it turns the other way
  pub outer-three : {e : ℕ} → In C e → L.face e ≡ 0 → L.next (L.next (L.next e)) ≡ e → at_corners orient2d L p e ≡ neg_ℤ (area_total C L p)
  unfolding outer_parts sum
  outer-three {e} l o q =
      sym (three-parts e q) ∙ ap (λ (z : ℤ). z +ℤ part (L.next e) +ℤ part (L.next (L.next e))) (sym (+ℤ_idl (part e)))
      ∙ sym (along-next W l o (period-three q (W.faces.apart l)) part) ∙ sym (neg_ℤ-neg_ℤ outer_parts) ∙ ap neg_ℤ (sym inner-outer)

  -- 01: "The boundary's doubled area is the usual cross-product sum over face 0's cycle, walked against next."
  pub area-theorem : area_total C L p ≡ boundary_area C L p
  area-theorem = inner-outer ∙ sym boundary-outer
