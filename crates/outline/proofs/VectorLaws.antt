-- Laws of cross products of whole vectors: the identity of four vectors, and its readings by signs. Polynomial
-- identities by the ring solver, signs by certificates.
-- Assumes nothing.
use Rattle.std.specs.Prelude.{◌≡◌, ◌⊎◌, List, [], ◌∷◌, zero, suc, ℤ, pos, negsuc, neg_ℤ, ◌+ℤ◌, ◌<ℤ◌, ◌≤ℤ◌}
use Rattle.std.proofs.Math.Path.{refl}
use Rattle.std.proofs.Common.{inl, inr, ⊎_elim, zero-le, suc-le-suc, lt→ltb}
use Rattle.algebra.specs.Ring.{E, ◌⊕◌, ◌⊖◌, ◌⊗◌, ⊝◌}
use Rattle.algebra.proofs.RingLaws.{#◌, v0, v1, v2, v3, ring}
use Rattle.algebra.proofs.Sign.{◌*⁺◌, ◌*°◌, ◌+⁺◌, ◌+°◌, sq, pos-in, nn-in, le_in, le-by, cases, refute, eq-in, zero°, ◌*⁰◌}
use Rattle.math.specs.declared.Point.{Point}
use Rattle.math.specs.declared.Vector.{Vector}
use Rattle.math.specs.Determinant.{Pt, Minus, Dot, Orient2d, orient2d}
use Rattle.math.proofs.Plane.{E·, A, B, C, D, env3}
use Rattle.math.specs.Vector.{difference, cross_of, dot_of}

-- ---- four vectors as the solver has them
abbrev pub Cross : Pt E → Pt E → E
Cross u v = u.x ⊗ v.y ⊖ u.y ⊗ v.x

abbrev pub vectors : Vector → Vector → Vector → Vector → List ℤ
vectors a b c d = a.x ∷ a.y ∷ b.x ∷ b.y ∷ c.x ∷ c.y ∷ d.x ∷ d.y ∷ []

pub cross-self : (u : Vector) → cross_of u u ≡ pos 0
unfolding cross_of
cross-self u = ring (vectors u u u u) (Cross A A) (# 0) refl

-- ---- cross products of differences
module _ (a b c : Point) where
  pub cross-along : cross_of (difference b a) (difference c b) ≡ orient2d a b c
  unfolding cross_of difference orient2d
  cross-along = ring (env3 a b c) (Cross (Minus E· B A) (Minus E· C B)) (Orient2d E· A B C) refl

  pub cross-end : cross_of (difference b a) (difference b c) ≡ neg_ℤ (orient2d a b c)
  unfolding cross_of difference orient2d
  cross-end = ring (env3 a b c) (Cross (Minus E· B A) (Minus E· B C)) (⊝ Orient2d E· A B C) refl

  -- one step from a to b, as any direction sees it
  pub cross-step : (e : Vector) → cross_of e (difference b c) ≡ cross_of e (difference a c) +ℤ cross_of e (difference b a)
  unfolding cross_of difference
  cross-step e = ring (a.x ∷ a.y ∷ b.x ∷ b.y ∷ c.x ∷ c.y ∷ e.x ∷ e.y ∷ []) (Cross D (Minus E· B C)) (Cross D (Minus E· A C) ⊕ Cross D (Minus E· B A)) refl

-- |u|² |v|² = (u × v)² + (u · v)²
pub cross-not-0 : (u v : Vector) → pos 0 <ℤ cross_of u v → pos 0 <ℤ dot_of u u
unfolding cross_of dot_of
cross-not-0 u v h = let ρ = vectors u v u v in
    ⊎_elim (λ k. k.is)
    (λ k. absurd (refute (pos-in ρ (Cross A B) h *⁺ pos-in ρ (Cross A B) h +⁺ sq (Dot E· A B) +⁺ k *° (sq B.x +° sq B.y)) tt))
    (cases ρ (Dot E· A A))

-- ---- signs
pub three-signs : (z : ℤ) → (z <ℤ pos 0) ⊎ ((z ≡ pos 0) ⊎ (pos 0 <ℤ z))
three-signs (pos zero) = inr (inl refl)
three-signs (pos (suc n)) = inr (inr (record { lt = lt→ltb 0 (suc n) (suc-le-suc zero-le) }))
three-signs (negsuc n) = inl (record { lt = tt })

-- b = a + x with x ≤ 0 and a ≤ c; and a = b - x with x ≥ 0
pub falls-on : (a b c x : ℤ) → b ≡ a +ℤ x → x ≤ℤ pos 0 → a ≤ℤ c → b ≤ℤ c
falls-on a b c x e h k = let ρ = a ∷ b ∷ c ∷ x ∷ [] in
    le-by (le_in ρ v3 (# 0) h +° le_in ρ v0 v2 k +° zero° ((⊝ # 1) *⁰ eq-in ρ v1 (v0 ⊕ v3) e)) v1 v2 refl

pub rose-to : (a b c x : ℤ) → b ≡ a +ℤ x → pos 0 ≤ℤ x → b ≤ℤ c → a ≤ℤ c
rose-to a b c x e h k = let ρ = a ∷ b ∷ c ∷ x ∷ [] in
    le-by (nn-in ρ v3 h +° le_in ρ v1 v2 k +° zero° (eq-in ρ v1 (v0 ⊕ v3) e)) v0 v2 refl
