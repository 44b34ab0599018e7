-- Laws of specs/Circle.antt.
use Rattle.std.specs.Prelude.{◌≡◌, List, [], ◌∷◌, pos, ◌-ℤ◌, ◌*ℤ◌, negsuc, ◌<ℤ◌}
use Rattle.std.proofs.Math.Path.{refl, ap, ap₂}
use Rattle.std.proofs.Common.{sym, ◌∙◌, ⊎_elim}
use Rattle.std.proofs.Math.IntN.{ℤ}
use Rattle.std.specs.Int.Signed.{lt_z_yes}
use Rattle.algebra.specs.Ring.{E, var, num, ◌⊖◌, ◌⊗◌, ⊝◌}
use Rattle.algebra.proofs.RingLaws.{v0, v1, v2, v3, ring}
use Rattle.algebra.proofs.Sign.{◌*⁺◌, ◌*°◌, ◌+⁺◌, weak, pos-in, lt_in, lt_by, cases, refute, eq-in, eq-by, zero°, ◌*⁰◌, ◌+⁰◌}
use Rattle.math.specs.declared.Point.{Point}
use Rattle.math.specs.Determinant.{Pt, Orient2d, Incircle, ℤ·, pt, orient2d, incircle}
use Rattle.math.proofs.Plane.{E·, A, B, C, D, env3, orient2d-next}
use Rattle.math.specs.Circle.{CentreX, CentreY, Distance2, scale, from_centre}

-- ---- the centre is as far from a as from b and from c
module _ (a b c : Point) where
  abbrev K : E
  K = num (pos 2) ⊗ Orient2d E· A B C

  abbrev from : Pt E → E
  from p = Distance2 E· K (CentreX E· A B C) (CentreY E· A B C) p

  pub centre-b : from_centre a b c b ≡ from_centre a b c a
  unfolding from_centre orient2d
  centre-b = ring (env3 a b c) (from B) (from A) refl

  pub centre-c : from_centre a b c c ≡ from_centre a b c a
  unfolding from_centre orient2d
  centre-c = ring (env3 a b c) (from C) (from A) refl

  -- and it is the same centre from b on, with the same distances
  pub centre-next : (p : Point) → from_centre a b c p ≡ from_centre b c a p
  unfolding from_centre
  centre-next p =
      let distance : ℤ → ℤ → ℤ → ℤ = λ s x y. Distance2 ℤ· (pos 2 *ℤ s) x y (pt p) in
      ap (λ (s : ℤ). distance s (CentreX ℤ· (pt a) (pt b) (pt c)) (CentreY ℤ· (pt a) (pt b) (pt c))) (orient2d-next a b c)
      ∙ ap₂ (distance (orient2d b c a))
      (ring (env3 a b c) (CentreX E· A B C) (CentreX E· B C A) refl)
      (ring (env3 a b c) (CentreY E· A B C) (CentreY E· B C A) refl)

  pub radius-next : from_centre a b c a ≡ from_centre b c a b
  radius-next = sym centre-b ∙ centre-next b

-- ---- any circle through a, b and c: the power of d is the determinant over the area
module _ (a b c d : Point) (k mx my r : ℤ) where
  abbrev ρ : List ℤ
  ρ = a.x ∷ a.y ∷ b.x ∷ b.y ∷ c.x ∷ c.y ∷ d.x ∷ d.y ∷ k ∷ mx ∷ my ∷ r ∷ []

  abbrev f : Pt E → E
  f p = Distance2 E· (var 8) (var 9) (var 10) p

  power : Distance2 ℤ· k mx my (pt a) ≡ r → Distance2 ℤ· k mx my (pt b) ≡ r → Distance2 ℤ· k mx my (pt c) ≡ r
      → k *ℤ k *ℤ incircle a b c d ≡ orient2d a b c *ℤ (r -ℤ Distance2 ℤ· k mx my (pt d))
  unfolding incircle orient2d
  power p q s =
      eq-by (Orient2d E· B C D *⁰ eq-in ρ (f A) (var 11) p +⁰ (⊝ Orient2d E· A C D) *⁰ eq-in ρ (f B) (var 11) q +⁰ Orient2d E· A B D *⁰ eq-in ρ (f C) (var 11) s)
      (var 8 ⊗ var 8 ⊗ Incircle E· A B C D) (Orient2d E· A B C ⊗ (var 11 ⊖ f D)) refl

pub incircle-power : (a b c d : Point)
    → scale a b c *ℤ scale a b c *ℤ incircle a b c d ≡ orient2d a b c *ℤ (from_centre a b c a -ℤ from_centre a b c d)
unfolding from_centre
incircle-power a b c d =
    power a b c d (scale a b c) (CentreX ℤ· (pt a) (pt b) (pt c)) (CentreY ℤ· (pt a) (pt b) (pt c)) (from_centre a b c a) refl (centre-b a b c) (centre-c a b c)

-- ---- where a b c turns left, the determinant is positive exactly where d is nearer to the centre than a, b and c are:
-- strictly inside the circle
module _ (a b c d : Point) (left : pos 0 <ℤ orient2d a b c) where
  -- the area S, the determinant, and the squared distances of a and of d
  abbrev ρ' : List ℤ
  ρ' = orient2d a b c ∷ incircle a b c d ∷ from_centre a b c a ∷ from_centre a b c d ∷ []

  abbrev k² : E
  k² = num (pos 2) ⊗ v0 ⊗ (num (pos 2) ⊗ v0)

  pub inside→ : pos 0 <ℤ incircle a b c d → from_centre a b c d <ℤ from_centre a b c a
  inside→ h =
      let S = pos-in ρ' v0 left in let e = eq-in ρ' (k² ⊗ v1) (v0 ⊗ (v2 ⊖ v3)) (incircle-power a b c d) in
      ⊎_elim (λ g. lt_by g v3 v2 refl)
      (λ g. absurd (refute (pos-in ρ' (num (pos 4)) (lt_z_yes tt) *⁺ (S *⁺ S *⁺ pos-in ρ' v1 h) +⁺ weak S *° g +⁺ zero° (num (negsuc 0) *⁰ e)) tt))
      (cases ρ' (v2 ⊖ v3))

  pub inside← : from_centre a b c d <ℤ from_centre a b c a → pos 0 <ℤ incircle a b c d
  inside← h =
      let S = pos-in ρ' v0 left in let e = eq-in ρ' (k² ⊗ v1) (v0 ⊗ (v2 ⊖ v3)) (incircle-power a b c d) in
      ⊎_elim (λ g. g.is)
      (λ g. absurd (refute (S *⁺ lt_in ρ' v3 v2 h +⁺ weak (pos-in ρ' (num (pos 4)) (lt_z_yes tt) *⁺ (S *⁺ S)) *° g +⁺ zero° e) tt))
      (cases ρ' v1)
