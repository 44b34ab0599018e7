-- A triangle holds the points strictly inside it, and a point that it holds can be moved strictly inside. Assumes nothing.
use Rattle.std.specs.Prelude.{◌≡◌, [], ◌∷◌, ◌<◌, ℤ, pos, ◌+ℤ◌, ◌-ℤ◌, ◌*ℤ◌, ◌<ℤ◌, ◌≤ℤ◌}
use Rattle.std.proofs.Math.Path.{refl}
use Rattle.std.proofs.Common.{◌∙◌}
use Rattle.std.specs.Int.Signed.{lt_z_yes}
use Rattle.algebra.proofs.Order.{lt-le}
use Rattle.algebra.specs.Ring.{E, ◌⊕◌, ◌⊖◌, ◌⊗◌}
use Rattle.algebra.proofs.RingLaws.{#◌, v0, v1, v2, v3, v4, ring}
use Rattle.algebra.proofs.Sign.{◌*⁺◌, ◌*°◌, ◌+⁺◌, pos-in, nn-in, le_in, pos-by, eq-in, zero°}
use Rattle.math.specs.declared.Point.{Point}
use Rattle.math.specs.Determinant.{Pt, Orient2d, orient2d, det2, Minus}
use Rattle.math.proofs.Plane.{E·, A, B, C, D, env}
use Rattle.math.specs.Vector.{difference, cross_of}
use Rattle.covering.specs.Holds.{Holds}
use Rattle.walkable.specs.Scaled.{scale, nudge, inward}
use Rattle.walkable.proofs.ScaledLaws.{orient2d-nudge}
use Rattle.insertion.specs.Plane.{Inside}

pub inside-holds : {q a b c : Point} → Inside a b c q → Holds q a b c
inside-holds I = record { ab = lt-le I.ab; bc = lt-le I.bc; ca = lt-le I.ca }

-- ---- moved inward
abbrev inwardᴱ : Pt E
inwardᴱ = record { x = # 2 ⊗ A.x ⊕ B.x ⊕ C.x ⊖ # 4 ⊗ D.x; y = # 2 ⊗ A.y ⊕ B.y ⊕ C.y ⊖ # 4 ⊗ D.y }

module _ (z a b c : Point) where
  cross-ab : cross_of (difference b a) (inward z a b c) ≡ orient2d a b c -ℤ pos 4 *ℤ orient2d a b z
  unfolding cross_of difference inward orient2d
  cross-ab = let u = Minus E· B A in let d = inwardᴱ in
      ring (env a b c z) (det2 E· (u.x, u.y) (d.x, d.y)) (Orient2d E· A B C ⊖ # 4 ⊗ Orient2d E· A B D) refl

  cross-bc : cross_of (difference c b) (inward z a b c) ≡ pos 2 *ℤ orient2d a b c -ℤ pos 4 *ℤ orient2d b c z
  unfolding cross_of difference inward orient2d
  cross-bc = let u = Minus E· C B in let d = inwardᴱ in
      ring (env a b c z) (det2 E· (u.x, u.y) (d.x, d.y)) (# 2 ⊗ Orient2d E· A B C ⊖ # 4 ⊗ Orient2d E· B C D) refl

  cross-ca : cross_of (difference a c) (inward z a b c) ≡ orient2d a b c -ℤ pos 4 *ℤ orient2d c a z
  unfolding cross_of difference inward orient2d
  cross-ca = let u = Minus E· A C in let d = inwardᴱ in
      ring (env a b c z) (det2 E· (u.x, u.y) (d.x, d.y)) (Orient2d E· A B C ⊖ # 4 ⊗ Orient2d E· C A D) refl

  -- by an edge's multiple m of the doubled area
  inward-edge : (K S o t m : ℤ) → pos 4 ≤ℤ K → pos 0 <ℤ S → pos 0 <ℤ m → pos 0 ≤ℤ o → t ≡ m *ℤ S -ℤ pos 4 *ℤ o
      → pos 0 <ℤ (K *ℤ (K *ℤ o +ℤ t))
  inward-edge K S o t m k s h n e =
      let ρ = K ∷ S ∷ o ∷ t ∷ m ∷ [] in
      let four = le_in ρ (# 4) v0 k in
      let K⁺ = pos-by (pos-in ρ (# 4) (lt_z_yes tt) +⁺ four) v0 refl in
      (pos-by (K⁺ *⁺ (pos-in ρ v4 h *⁺ pos-in ρ v1 s +⁺ four *° nn-in ρ v2 n +⁺ zero° (eq-in ρ v3 (v4 ⊗ v1 ⊖ # 4 ⊗ v2) e))) (v0 ⊗ (v0 ⊗ v2 ⊕ v3)) refl).is

  -- THE MOVED POINT is strictly inside the enlarged triangle
  pub inward-inside : (K : ℤ) → pos 4 ≤ℤ K → pos 0 <ℤ orient2d a b c → Holds z a b c
      → Inside (scale K a) (scale K b) (scale K c) (nudge K (inward z a b c) z)
  inward-inside K k left H =
      let δ = inward z a b c in let S = orient2d a b c in
      let one = lt_z_yes {a = pos 0} {b = pos 1} tt in
      record {
        ab = rw (orient2d-nudge K δ a b z) (inward-edge K S (orient2d a b z) (cross_of (difference b a) δ) (pos 1) k left one H.ab (cross-ab ∙ single S (orient2d a b z)));
        bc = rw (orient2d-nudge K δ b c z) (inward-edge K S (orient2d b c z) (cross_of (difference c b) δ) (pos 2) k left (lt_z_yes tt) H.bc cross-bc);
        ca = rw (orient2d-nudge K δ c a z) (inward-edge K S (orient2d c a z) (cross_of (difference a c) δ) (pos 1) k left one H.ca (cross-ca ∙ single S (orient2d c a z)));
      }
    where
      single : (S o : ℤ) → S -ℤ pos 4 *ℤ o ≡ pos 1 *ℤ S -ℤ pos 4 *ℤ o
      single S o = ring (S ∷ o ∷ []) (v0 ⊖ # 4 ⊗ v1) (# 1 ⊗ v0 ⊖ # 4 ⊗ v1) refl
