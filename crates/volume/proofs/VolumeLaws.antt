-- How six times the volume depends on the level, and how large it can be. Assumes nothing.
use Rattle.std.specs.Prelude.{◌≡◌, [], ◌∷◌, ℤ, nat_abs, ◌+ℤ◌, ◌-ℤ◌, ◌*ℤ◌}
use Rattle.std.proofs.Math.Path.{refl, ap}
use Rattle.std.proofs.Common.{◌∙◌, lt_of_le_of_lt, mul-le-mul_right, lit<}
use Prim.Native.Nat.{ℕ, suc, ◌-◌, ◌*◌, ◌^◌, ◌<◌, ◌≤◌}
use Rattle.std.proofs.Math.Nat.{le_trans}
use native.Mathlib.Omega.{arith}
use Rattle.std.proofs.Math.IntN.{pos}
use Rattle.algebra.specs.Ring.{◌⊕◌, ◌⊖◌, ◌⊗◌, ⊝◌}
use Rattle.algebra.proofs.RingLaws.{#◌, v0, v1, v2, v3, v4, ring}
use Rattle.algebra.proofs.Sign.{eq-in, eq-by, ◌*⁰◌, ◌+⁰◌}
use Rattle.algebra.proofs.Bound.{[]ᵉ, ◌∷ᵉ◌, within}
use Rattle.int128.specs.CubicMetres.{half_to_even, cubic_metres_of}
use Rattle.int128.specs.CubicMetresLaws.{Rounded}
use Rattle.int128.proofs.CubicMetresLawsFacts.{rounded}
use Rattle.int128.specs.Int128Laws.{nat_abs-sign}
use Rattle.math.specs.declared.Point.{Point}
use Rattle.math.proofs.AreaBound.{area-bound}
use Rattle.math.specs.Determinant.{orient2d}
use Rattle.mesh.specs.declared.Counts.{Counts}
use Rattle.mesh.specs.Mesh.{Links}
use Rattle.mesh.specs.Area.{at_corners, over_faces, area_total, boundary_area}
use Rattle.mesh.proofs.AreaLaws.{area-theorem}
use Rattle.mesh.proofs.CountsLaws.{faces-fit}
use Rattle.mesh.specs.Good.{Good}
use Rattle.mesh.specs.Wf.{Wf}
use Rattle.sums.specs.Sum.{sum}
use Rattle.sums.proofs.SumLaws.{sum-ext, sum-add, sum-scale, sum-none, sum-small}
use Rattle.volume.specs.Volume.{above_level, six_volumes_of}

module _ (C : Counts) (L : Links) (p : ℕ → Point) (h : ℕ → ℤ) where
  -- of the inner face f + 1: its doubled area, and its part above level 0
  area : ℕ → ℤ
  area f = at_corners orient2d L p (L.adjacent (suc f))

  part : ℕ → ℤ
  part f = area f *ℤ above_level L h (pos 0) (L.adjacent (suc f))

  -- a level lowers it by a slab of the whole area
  pub by_level : (level : ℤ) → six_volumes_of C L p h level ≡ six_volumes_of C L p h (pos 0) -ℤ pos 3 *ℤ level *ℤ area_total C L p
  unfolding area part six_volumes_of over_faces above_level
  by_level level =
      let n = C.faces - 1 in
      let slab = # 3 ⊗ v1 in
      let lower = pos 0 -ℤ pos 3 *ℤ level in
      sum-ext n {g = λ f. part f +ℤ lower *ℤ area f} (λ f l.
      ring (area f ∷ level ∷ h _ ∷ h _ ∷ h _ ∷ []) (v0 ⊗ (v2 ⊕ v3 ⊕ v4 ⊖ slab))
      (v0 ⊗ (v2 ⊕ v3 ⊕ v4 ⊖ # 3 ⊗ # 0) ⊕ (# 0 ⊖ slab) ⊗ v0) refl)
      ∙ sum-add n part (λ f. lower *ℤ area f)
      ∙ ap (λ (z : ℤ). sum n part +ℤ z) (sum-scale n lower area)
      ∙ ring (sum n part ∷ level ∷ sum n area ∷ []) (v0 ⊕ (# 0 ⊖ slab) ⊗ v2) (v0 ⊖ slab ⊗ v2) refl

  -- raising the level by one lowers it by three times the mesh's doubled area
  pub raised : (level : ℤ) → six_volumes_of C L p h (level +ℤ pos 1) ≡ six_volumes_of C L p h level -ℤ pos 3 *ℤ area_total C L p
  raised level =
      let low = six_volumes_of C L p h level in
      let high = six_volumes_of C L p h (level +ℤ pos 1) in
      let ρ = low ∷ high ∷ six_volumes_of C L p h (pos 0) ∷ area_total C L p ∷ level ∷ [] in
      let below = eq-in ρ v0 (v2 ⊖ # 3 ⊗ v4 ⊗ v3) (by_level level) in
      let above = eq-in ρ v1 (v2 ⊖ # 3 ⊗ (v4 ⊕ # 1) ⊗ v3) (by_level (level +ℤ pos 1)) in
      eq-by (above +⁰ (⊝ # 1) *⁰ below) v1 (v0 ⊖ # 3 ⊗ v3) refl

  module _ (W : Wf C L) where
    pub raised-boundary : (level : ℤ)
        → six_volumes_of C L p h (level +ℤ pos 1) ≡ six_volumes_of C L p h level -ℤ pos 3 *ℤ boundary_area C L p
    raised-boundary level = raised level ∙ ap (λ (z : ℤ). six_volumes_of C L p h level -ℤ pos 3 *ℤ z) (area-theorem W p)

    -- a mesh that lies in the level
    pub at_level : (level : ℤ) → ((v : ℕ) → v < C.vertices → h v ≡ level) → six_volumes_of C L p h level ≡ pos 0
    unfolding six_volumes_of above_level
    at_level level flat = sum-none (C.faces - 1) _ (λ f l.
        let a< = W.ranges.adjacent< {f = suc f} (omega arith) in
        let b< = W.ranges.next< a< in
        let c< = W.ranges.next< b< in
        rw (flat _ (W.ranges.origin< a<), flat _ (W.ranges.origin< b<), flat _ (W.ranges.origin< c<))
        (ring (at_corners orient2d L p (L.adjacent (suc f)) ∷ level ∷ []) (v0 ⊗ (v1 ⊕ v1 ⊕ v1 ⊖ # 3 ⊗ v1)) (# 0) refl))

-- ---- the largest
product-most : {A B : ℕ} (x y : ℤ) → nat_abs x ≤ A → nat_abs y ≤ B → nat_abs (x *ℤ y) ≤ A * B
product-most x y a b = within {ρ = x ∷ y ∷ []} (a ∷ᵉ b ∷ᵉ []ᵉ) (v0 ⊗ v1)

pub above_most : (L : Links) (h : ℕ → ℤ) (level : ℤ) (e : ℕ) → let b = L.next e in
    nat_abs (h (L.origin e)) ≤ 1048576 → nat_abs (h (L.origin b)) ≤ 1048576 → nat_abs (h (L.origin (L.next b))) ≤ 1048576
    → nat_abs level ≤ 1048576 → nat_abs (above_level L h level e) ≤ 6291456
unfolding above_level
above_most L h level e x y z low =
    let b = L.next e in
    within {ρ = h (L.origin e) ∷ h (L.origin b) ∷ h (L.origin (L.next b)) ∷ level ∷ []} (x ∷ᵉ y ∷ᵉ z ∷ᵉ low ∷ᵉ []ᵉ)
    (v0 ⊕ v1 ⊕ v2 ⊖ # 3 ⊗ v3)

module _ {C : Counts} {L : Links} {p : ℕ → Point} (G : Good C L p) (most : C.vertices ≤ 1000000) (h : ℕ → ℤ) (level : ℤ)
    (heights : (v : ℕ) → v < C.vertices → nat_abs (h v) ≤ 1048576) (low : nat_abs level ≤ 1048576) where
  face-most : (e : ℕ) → e < 2 * C.edges → nat_abs (at_corners orient2d L p e *ℤ above_level L h level e) ≤ 2 ^ 50 * 6291456
  face-most e a< =
      let b< = G.wf.ranges.next< a< in
      let a = G.wf.ranges.origin< a< in
      let b = G.wf.ranges.origin< b< in
      let c = G.wf.ranges.origin< (G.wf.ranges.next< b<) in
      product-most (at_corners orient2d L p e) (above_level L h level e) (area-bound (G.range a) (G.range b) (G.range c))
      (above_most L h level e (heights _ a) (heights _ b) (heights _ c) low)

  -- there are at most 1,999,995 triangles
  pub six-most : nat_abs (six_volumes_of C L p h level) ≤ 1999995 * (2 ^ 50 * 6291456)
  unfolding six_volumes_of
  six-most =
      let few : C.faces - 1 ≤ 1999995 = let u = faces-fit G.wf most in omega arith in
      le_trans (sum-small (C.faces - 1) (2 ^ 50 * 6291456) _ (λ f l.
      face-most (L.adjacent (suc f)) (G.wf.ranges.adjacent< {f = suc f} (omega arith))))
      (mul-le-mul_right (2 ^ 50 * 6291456) few)

  pub six-less : nat_abs (six_volumes_of C L p h level) < 2 ^ 94
  six-less = lt_of_le_of_lt six-most (lit< tt)

  -- so the cubic metres fit a signed number of 64 bits
  pub metres-most : nat_abs (cubic_metres_of (six_volumes_of C L p h level)) ≤ 2361177338476719020
  unfolding cubic_metres_of
  metres-most =
      let six = six_volumes_of C L p h level in
      rw (nat_abs-sign six (pos (half_to_even (nat_abs six)))) (few-metres (rounded (nat_abs six)) six-most)
    where
      few-metres : {n r : ℕ} → Rounded n r → n ≤ 1999995 * (2 ^ 50 * 6291456) → r ≤ 2361177338476719020
      few-metres R l = let a = R.not-far-above in omega arith
