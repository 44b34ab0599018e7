-- On two edges of a left-turning triangle: at the corner between them. Assumes nothing.
use Rattle.std.specs.Prelude.{◌≡◌, refl, List, ℤ, pos, ◌<ℤ◌}
use Rattle.std.proofs.Common.{⊎_elim}
use Rattle.algebra.proofs.Order.{le_antisymm}
use Rattle.algebra.specs.Ring.{◌⊖◌, ⊝◌}
use Rattle.algebra.proofs.RingLaws.{#◌}
use Rattle.algebra.proofs.Sign.{Zero, Pos, ◌*⁺◌, ◌+⁺◌, pos-in, cases, le-by, refute, eq-in, ◌*⁰◌, ◌+⁰◌, zero°}
use Rattle.math.specs.declared.Point.{Point}
use Rattle.math.specs.Determinant.{Orient2d, orient2d}
use Rattle.math.proofs.Plane.{E·, A, B, C, D, env}
use Rattle.math.proofs.Position.{point-ext}

-- on two edges: at the corner between them
pub at-corner : (z a b c : Point) → pos 0 <ℤ orient2d a b c → orient2d a b z ≡ pos 0 → orient2d c a z ≡ pos 0 → z ≡ a
unfolding orient2d
at-corner z a b c left ab ca =
    point-ext
    (le_antisymm
    (⊎_elim (λ k. absurd (refute (S *⁺ k +⁺ zero° ((⊝ (C.x ⊖ A.x)) *⁰ u +⁰ (⊝ (B.x ⊖ A.x)) *⁰ w)) tt)) (λ n. le-by n D.x A.x refl) (cases ρ (D.x ⊖ A.x)))
    (⊎_elim (λ k. absurd (refute (S *⁺ k +⁺ zero° ((C.x ⊖ A.x) *⁰ u +⁰ (B.x ⊖ A.x) *⁰ w)) tt)) (λ n. le-by n A.x D.x refl) (cases ρ (A.x ⊖ D.x))))
    (le_antisymm
    (⊎_elim (λ k. absurd (refute (S *⁺ k +⁺ zero° ((⊝ (C.y ⊖ A.y)) *⁰ u +⁰ (⊝ (B.y ⊖ A.y)) *⁰ w)) tt)) (λ n. le-by n D.y A.y refl) (cases ρ (D.y ⊖ A.y)))
    (⊎_elim (λ k. absurd (refute (S *⁺ k +⁺ zero° ((C.y ⊖ A.y) *⁰ u +⁰ (B.y ⊖ A.y) *⁰ w)) tt)) (λ n. le-by n A.y D.y refl) (cases ρ (A.y ⊖ D.y))))
  where
    ρ : List ℤ
    ρ = env a b c z

    S : Pos ρ (Orient2d E· A B C)
    S = pos-in ρ (Orient2d E· A B C) left

    u : Zero ρ (Orient2d E· A B D ⊖ # 0)
    u = eq-in ρ (Orient2d E· A B D) (# 0) ab

    w : Zero ρ (Orient2d E· C A D ⊖ # 0)
    w = eq-in ρ (Orient2d E· C A D) (# 0) ca
