-- Where two triangles of a mesh hold one point, for a mesh that is left-turning, convex, and goes round once. The point
-- is moved a little into the first, in an enlarged mesh, so that the first is the only triangle with it inside; and the
-- second, or one beside it, has it inside too. Assumes nothing.
use Rattle.std.specs.Prelude.{◌≡◌, refl, List, [], ◌∷◌, ℕ, ◌+◌, ◌<◌, ◌≤◌, ℤ, pos, nat_abs, ◌+ℤ◌, ◌<ℤ◌, ◌≤ℤ◌}
use Rattle.std.proofs.Common.{arith, le→leb}
use Rattle.std.specs.Int.Signed.{lt_z_yes, le_z_yes}
use Rattle.algebra.proofs.Bound.{abs-ge}
use Rattle.algebra.specs.Ring.{◌⊕◌, ⊝◌}
use Rattle.algebra.proofs.RingLaws.{#◌, v0, v1}
use Rattle.algebra.proofs.Sign.{◌+⁺◌, pos-in, nn-in, le_in, lt_by, le-by}
use Rattle.math.specs.declared.Point.{Point}
use Rattle.math.specs.Vector.{difference, cross_of}
use Rattle.mesh.specs.declared.Counts.{Counts}
use Rattle.mesh.specs.Mesh.{Links, In, to}
use Rattle.mesh.specs.Wf.{Wf}
use Rattle.mesh.specs.Area.{LeftTurning}
use Rattle.mesh.proofs.LeftLaws.{left_at}
use Rattle.walkable.proofs.CoveringLaws.{covering}
use Rattle.covering.specs.Holds.{HoldsAt}
use Rattle.walkable.specs.Scaled.{inward_at, scale, nudge, WindsOnce}
use Rattle.walkable.proofs.ScaledFacts.{large}
use Rattle.walkable.proofs.ScaledLaws.{scale-turning, nudge-strict}
use Rattle.walkable.proofs.CoveringFacts.{InsideAt}
use Rattle.walkable.proofs.InwardLaws.{inward-inside}

-- ---- how large to make the mesh
module _ (n : ℕ) where
  abbrev ρ : List ℤ
  ρ = pos n ∷ []

  natural : pos 0 ≤ℤ pos n
  natural = le_z_yes (le→leb 0 n (omega arith))

  pub large-four : pos 4 ≤ℤ large n
  large-four = le-by (nn-in ρ v0 natural) (# 4) (v0 ⊕ # 4) refl

  pub large-positive : pos 0 <ℤ large n
  large-positive = lt_by (pos-in ρ (# 4) (lt_z_yes tt) +⁺ nn-in ρ v0 natural) (# 0) (v0 ⊕ # 4) refl

  pub large-beside : (c : ℤ) → nat_abs c ≤ n → pos 0 <ℤ (large n +ℤ c)
  large-beside c h = let σ = pos n ∷ c ∷ [] in lt_by (pos-in σ (# 4) (lt_z_yes tt) +⁺ le_in σ (⊝ v0) v1 (abs-ge h)) (# 0) (v0 ⊕ # 4 ⊕ v1) refl

module _ {C : Counts} {L : Links} (W : Wf C L) {p : ℕ → Point} (turning : LeftTurning C L p) (winds : WindsOnce C L p) where
  -- the moved point is strictly inside the first triangle
  pub moved : {z : Point} {x : ℕ} → In C x → 0 < L.face x → HoldsAt L p z x → (n : ℕ)
      → InsideAt L (λ v. scale (large n) (p v)) (nudge (large n) (inward_at L p z x) z) x
  moved {z} {x} l i H n = inward-inside z (p (L.origin x)) (p (to L x)) (p (L.origin (L.prev x))) (large n) (large-four n) (left_at W turning l i) H

  -- so a triangle that has it inside is the first
  pub first-only : {z : Point} {x : ℕ} → In C x → 0 < L.face x → HoldsAt L p z x → (n : ℕ) → {d : ℕ} → In C d → 0 < L.face d
      → InsideAt L (λ v. scale (large n) (p v)) (nudge (large n) (inward_at L p z x) z) d → L.face x ≡ L.face d
  first-only {z} {x} l i H n m j I =
      let K = large n in let q = nudge K (inward_at L p z x) z in
      covering W (scale-turning (large-positive n) turning) q (winds.once K (large-positive n) q) l m i j (moved l i H n) I

  -- INSIDE: of two triangles that hold z, the second strictly inside, the first is the second
  pub holds-inside-only : {z : Point} {x e : ℕ} → In C x → 0 < L.face x → HoldsAt L p z x → In C e → 0 < L.face e
      → InsideAt L p z e → L.face x ≡ L.face e
  holds-inside-only {z} {x} {e} l i H m j I =
      let δ = inward_at L p z x in
      let a = p (L.origin e) in let b = p (to L e) in let c = p (L.origin (L.prev e)) in
      let u = cross_of (difference b a) δ in let v = cross_of (difference c b) δ in let w = cross_of (difference a c) δ in
      let n = nat_abs u + nat_abs v + nat_abs w in let K = large n in
      first-only l i H n m j (record {
        ab = nudge-strict K δ a b z (large-positive n) (large-beside n u (omega arith)) I.ab;
        bc = nudge-strict K δ b c z (large-positive n) (large-beside n v (omega arith)) I.bc;
        ca = nudge-strict K δ c a z (large-positive n) (large-beside n w (omega arith)) I.ca;
      })
