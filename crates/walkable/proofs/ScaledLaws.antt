-- Enlarging keeps a mesh left-turning and its boundary convex; where a moved point lies. Assumes nothing.
use Rattle.std.specs.Prelude.{◌≡◌, refl, List, [], ◌∷◌, ℕ, ℤ, pos, ◌+ℤ◌, ◌*ℤ◌, ◌<ℤ◌}
use Rattle.std.proofs.Common.{sym, subst}
use Rattle.algebra.specs.Ring.{E, var, ◌⊕◌, ◌⊗◌}
use Rattle.algebra.proofs.RingLaws.{v0, v1, v2, ring}
use Rattle.algebra.proofs.Sign.{◌*⁺◌, ◌*°◌, ◌+⁺◌, weak, less1, pos-in, pos-by}
use Rattle.math.specs.declared.Point.{Point}
use Rattle.math.specs.declared.Vector.{Vector}
use Rattle.math.specs.Determinant.{Pt, Orient2d, orient2d, det2, Minus}
use Rattle.math.proofs.Plane.{E·, A, B, C, D}
use Rattle.math.specs.Vector.{difference, cross_of}
use Rattle.mesh.specs.declared.Counts.{Counts}
use Rattle.mesh.specs.Mesh.{Links}
use Rattle.mesh.specs.Area.{LeftTurning}
use Rattle.walkable.specs.Scaled.{scale, nudge}

abbrev Kᴱ : E
Kᴱ = var 8

abbrev K× : Pt E → Pt E
K× a = record { x = Kᴱ ⊗ a.x; y = Kᴱ ⊗ a.y }

abbrev envᴷ : Point → Point → Point → Vector → ℤ → List ℤ
envᴷ a b c d K = a.x ∷ a.y ∷ b.x ∷ b.y ∷ c.x ∷ c.y ∷ d.x ∷ d.y ∷ K ∷ []

-- ---- enlarged
pub orient2d-scale : (K : ℤ) (a b c : Point) → orient2d (scale K a) (scale K b) (scale K c) ≡ K *ℤ K *ℤ orient2d a b c
unfolding orient2d scale
orient2d-scale K a b c = ring (envᴷ a b c (record { x = K; y = K }) K) (Orient2d E· (K× A) (K× B) (K× C)) (Kᴱ ⊗ Kᴱ ⊗ Orient2d E· A B C) refl

pub scale-left : {K : ℤ} → pos 0 <ℤ K → (a b c : Point) → pos 0 <ℤ orient2d a b c → pos 0 <ℤ orient2d (scale K a) (scale K b) (scale K c)
scale-left {K} k a b c h =
    let ρ = K ∷ orient2d a b c ∷ [] in
    subst (λ (z : ℤ). pos 0 <ℤ z) (sym (orient2d-scale K a b c)) (pos-in ρ v0 k *⁺ pos-in ρ v0 k *⁺ pos-in ρ v1 h).is

module _ {C : Counts} {L : Links} {p : ℕ → Point} {K : ℤ} (k : pos 0 <ℤ K) where
  pub scale-turning : LeftTurning C L p → LeftTurning C L (λ v. scale K (p v))
  scale-turning T = record { left = λ {f} i l. scale-left k _ _ _ (T.left i l) }

-- ---- moved
pub orient2d-nudge : (K : ℤ) (δ : Vector) (a b z : Point)
    → orient2d (scale K a) (scale K b) (nudge K δ z) ≡ K *ℤ (K *ℤ orient2d a b z +ℤ cross_of (difference b a) δ)
unfolding orient2d scale nudge cross_of difference
orient2d-nudge K δ a b z =
    let u = Minus E· B A in
    ring (envᴷ a b z δ K) (Orient2d E· (K× A) (K× B) (record { x = Kᴱ ⊗ C.x ⊕ D.x; y = Kᴱ ⊗ C.y ⊕ D.y })) (Kᴱ ⊗ (Kᴱ ⊗ Orient2d E· A B C ⊕ det2 E· (u.x, u.y) (D.x, D.y))) refl

-- strictly left of an edge it stays so, where K is large
pub nudge-strict : (K : ℤ) (δ : Vector) (a b z : Point) → pos 0 <ℤ K → pos 0 <ℤ (K +ℤ cross_of (difference b a) δ)
    → pos 0 <ℤ orient2d a b z → pos 0 <ℤ orient2d (scale K a) (scale K b) (nudge K δ z)
nudge-strict K δ a b z k big h =
    let ρ = K ∷ orient2d a b z ∷ cross_of (difference b a) δ ∷ [] in
    subst (λ (t : ℤ). pos 0 <ℤ t) (sym (orient2d-nudge K δ a b z))
    (pos-by (pos-in ρ v0 k *⁺ (pos-in ρ (v0 ⊕ v2) big +⁺ weak (pos-in ρ v0 k) *° less1 (pos-in ρ v1 h))) (v0 ⊗ (v0 ⊗ v1 ⊕ v2)) refl).is
