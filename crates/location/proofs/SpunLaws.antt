-- Seen from t with r due east: areas grow by one factor, so nothing changes its side; and a point strictly right of the
-- way from r is low. Assumes nothing.
use Rattle.std.specs.Prelude.{◌≡◌, refl, List, [], ◌∷◌, ℕ, ℤ, pos, ◌*ℤ◌, ◌<ℤ◌, ◌≤ℤ◌}
use Rattle.std.proofs.Common.{sym, subst, ⊎_elim}
use Rattle.algebra.specs.Ring.{E, var, ◌⊕◌, ◌⊖◌, ◌⊗◌, ⊝◌}
use Rattle.algebra.proofs.RingLaws.{#◌, v0, v1, ring}
use Rattle.algebra.proofs.Sign.{◌*⁺◌, ◌*°◌, ◌+⁺◌, ◌+°◌, weak, sq, pos-in, nn-in, lt_in, cases, nn-by, lt_by, le-by, refute}
use Rattle.math.specs.declared.Point.{Point}
use Rattle.math.specs.Determinant.{Pt, Orient2d, orient2d}
use Rattle.math.proofs.Plane.{E·, A, B, C, D, env}
use Rattle.mesh.specs.declared.Counts.{Counts}
use Rattle.mesh.specs.Mesh.{Links}
use Rattle.mesh.specs.Area.{LeftTurning}
use Rattle.covering.specs.Holds.{Holds}
use Rattle.location.specs.Spun.{spun, spread}

-- ---- as the solver has them: r is D, and t is Tᴱ
abbrev Tᴱ : Pt E
Tᴱ = record { x = var 8; y = var 9 }

abbrev env5 : Point → Point → Point → Point → Point → List ℤ
env5 a b c r t = a.x ∷ a.y ∷ b.x ∷ b.y ∷ c.x ∷ c.y ∷ r.x ∷ r.y ∷ t.x ∷ t.y ∷ []

abbrev Spun : Pt E → Pt E → Pt E → Pt E
Spun r t a = record {
  x = (r.x ⊖ t.x) ⊗ (a.x ⊖ t.x) ⊕ (r.y ⊖ t.y) ⊗ (a.y ⊖ t.y);
  y = (r.x ⊖ t.x) ⊗ (a.y ⊖ t.y) ⊖ (r.y ⊖ t.y) ⊗ (a.x ⊖ t.x);
}

abbrev Spread : Pt E → Pt E → E
Spread r t = (r.x ⊖ t.x) ⊗ (r.x ⊖ t.x) ⊕ (r.y ⊖ t.y) ⊗ (r.y ⊖ t.y)

pub orient2d-spun : (r t a b c : Point) → orient2d (spun r t a) (spun r t b) (spun r t c) ≡ spread r t *ℤ orient2d a b c
unfolding orient2d spun spread
orient2d-spun r t a b c = ring (env5 a b c r t) (Orient2d E· (Spun D Tᴱ A) (Spun D Tᴱ B) (Spun D Tᴱ C)) (Spread D Tᴱ ⊗ Orient2d E· A B C) refl

-- t is strictly right of the edge from r to b: it is not at r
pub spread-positive : (r b t : Point) → orient2d r b t <ℤ pos 0 → pos 0 <ℤ spread r t
unfolding orient2d spread
spread-positive r b t h =
    let ρ = env r b t t in
    let k = lt_in ρ (Orient2d E· A B C) (# 0) h in
    let w = Spread B C in
    ⊎_elim (λ n. n.is)
    (λ n. absurd (refute (k *⁺ k +⁺ sq ((A.x ⊖ C.x) ⊗ (B.x ⊖ C.x) ⊕ (A.y ⊖ C.y) ⊗ (B.y ⊖ C.y)) +⁺ n *° (sq (B.x ⊖ C.x) +° sq (B.y ⊖ C.y))) tt))
    (cases ρ (Spread A C))

-- r is at t's height, and b below it
pub spun-east : (r t : Point) → (spun r t t).y ≤ℤ (spun r t r).y
unfolding spun
spun-east r t = le-by (sq {ρ = env r t t t} (# 0)) (Spun A B B).y (Spun A B A).y refl

pub spun-low : (r b t : Point) → orient2d r b t <ℤ pos 0 → (spun r t b).y <ℤ (spun r t t).y
unfolding orient2d spun
spun-low r b t h = let ρ = env r b t t in lt_by (lt_in ρ (Orient2d E· A B C) (# 0) h) (Spun A C B).y (Spun A C C).y refl

module _ (r t : Point) (N : pos 0 <ℤ spread r t) where
  pub spun-left : (a b c : Point) → pos 0 <ℤ orient2d a b c → pos 0 <ℤ orient2d (spun r t a) (spun r t b) (spun r t c)
  spun-left a b c h =
      let ρ = spread r t ∷ orient2d a b c ∷ [] in
      subst (λ (z : ℤ). pos 0 <ℤ z) (sym (orient2d-spun r t a b c)) (pos-in ρ v0 N *⁺ pos-in ρ v1 h).is

  pub spun-left← : (a b c : Point) → pos 0 <ℤ orient2d (spun r t a) (spun r t b) (spun r t c) → pos 0 <ℤ orient2d a b c
  spun-left← a b c h =
      let ρ = spread r t ∷ orient2d a b c ∷ [] in
      let k : pos 0 <ℤ (spread r t *ℤ orient2d a b c) = subst (λ (z : ℤ). pos 0 <ℤ z) (orient2d-spun r t a b c) h in
      ⊎_elim (λ x. x.is) (λ x. absurd (refute (pos-in ρ (v0 ⊗ v1) k +⁺ weak (pos-in ρ v0 N) *° x) tt)) (cases ρ v1)

  pub spun-right← : (a b c : Point) → pos 0 ≤ℤ orient2d (spun r t a) (spun r t b) (spun r t c) → pos 0 ≤ℤ orient2d a b c
  spun-right← a b c h =
      let ρ = spread r t ∷ orient2d a b c ∷ [] in
      let k : pos 0 ≤ℤ (spread r t *ℤ orient2d a b c) = subst (λ (z : ℤ). pos 0 ≤ℤ z) (orient2d-spun r t a b c) h in
      ⊎_elim (λ x. absurd (refute (pos-in ρ v0 N *⁺ x +⁺ nn-in ρ (v0 ⊗ v1) k) tt)) (λ x. (nn-by x v1 refl).is) (cases ρ (⊝ v1))

  pub spun-holds← : (q a b c : Point) → Holds (spun r t q) (spun r t a) (spun r t b) (spun r t c) → Holds q a b c
  spun-holds← q a b c H = record { ab = spun-right← a b q H.ab; bc = spun-right← b c q H.bc; ca = spun-right← c a q H.ca }

  pub spun-turning : {C : Counts} {L : Links} {p : ℕ → Point} → LeftTurning C L p → LeftTurning C L (λ v. spun r t (p v))
  spun-turning T = record { left = λ {f} i l. spun-left _ _ _ (T.left i l) }
