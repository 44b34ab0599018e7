-- What `vertex_angle` answers about a point, and what is decided then: of a point at the centre fate 5, of any other the decision by its
-- located edge, however that is found. Assumes nothing.
use Rattle.std.specs.Prelude.{Bool, true, false, ◌≡◌, ℕ, Float, ℤ, Option, None, Some, if◌then◌else◌}
use Rattle.std.proofs.Math.Path.{refl}
use Rattle.std.proofs.Common.{sym, ◌∙◌, ap, ap₂, subst, arith}
use Rattle.angle.specs.Angle.{IsAngle, angle_about, at_center, turns}
use Rattle.angle.specs.Answer.{CarriesAngle, vertex_angle}
use Rattle.math.specs.declared.Point.{Point}
use Rattle.mesh.specs.declared.Counts.{Counts}
use Rattle.mesh.specs.Mesh.{Links}
use Rattle.ring.specs.Ring.{located}
use Rattle.ring.specs.Center.{turns_about}
use Rattle.decide.specs.declared.Decision.{Decision}
use Rattle.decide.specs.declared.Fate.{Fate}
use Rattle.decide.specs.declared.Fate.TheVariants.{AtCenter}
use Rattle.decide.specs.Decide.{Decided, decided, decided_at, if_added, not_added}
use Rattle.decide.specs.SweepRows.{Decides}
use Rattle.decide.proofs.SweepRowsLaws.{decided-none, decided-some}
use Rattle.decide.specs.Located.{LeavesOut}

-- a point that is not added
pub left_out : {C : Counts} {L : Links} {p : ℕ → Point} {cx cy : Float} {v : Point} {D : Decided} {r : Decision}
    (F : Fate) → if_added F 1 ≡ 0 → LeavesOut F r → D ≡ not_added F → Decides C L p cx cy v D r
unfolding if_added
left_out F never i j = record {
  is = i ∙ sym j;
  angles = λ n z. absurd (let k = ap (λ (f : Fate). if_added f 1) (sym (ap (λ (D : Decided). D.fate) i) ∙ z) in omega arith);
}

-- ---- an answer of `vertex_angle`
no-angle : (t : Bool) (b : Float) {r : Option Float} → r ≡ (if t then None else Some b) → r ≡ None → t ≡ true
no-angle true b e f = refl
no-angle false b e f = absurd (let k : ◌≡◌ {A = ℕ} 0 1 = cc in omega arith)

some-angle : (t : Bool) (b : Float) {r : Option Float} {g : Float} → r ≡ (if t then None else Some b) → r ≡ Some g → (t ≡ false) × (g ≡ b)
some-angle true b e f = absurd (let k : ◌≡◌ {A = ℕ} 0 1 = cc in omega arith)
some-angle false b e f = (refl, (cc))

pub carried : {r : Option Float} {g : Float} → CarriesAngle r → r ≡ Some g → IsAngle g
carried A e = subst CarriesAngle e A

module _ (v : Point) (cx cy : Float) {r : Option Float} {x y : ℤ} (is : r ≡ vertex_angle x y cx cy) (x-is : x ≡ v.x) (y-is : y ≡ v.y) where
  is_at : r ≡ vertex_angle v.x v.y cx cy
  is_at = is ∙ ap₂ (λ (i j : ℤ). vertex_angle i j cx cy) x-is y-is

  -- ---- no angle: fate 5
  pub at-center : r ≡ None → {C : Counts} {L : Links} {p : ℕ → Point} {d : Decision} → LeavesOut AtCenter d
      → Decides C L p cx cy v (decided cx cy C L p v) d
  unfolding if_added
  at-center z {C} {L} {p} w = left_out AtCenter refl w
      (decided-none cx cy C L p v (no-angle (at_center v.x v.y cx cy) (angle_about v.x v.y cx cy) is_at z))

  -- ---- an angle: the decision by the located edge
  module _ {g : Float} (z : r ≡ Some g) where
    pub angle-is : (at_center v.x v.y cx cy ≡ false) × (g ≡ angle_about v.x v.y cx cy)
    angle-is = some-angle (at_center v.x v.y cx cy) (angle_about v.x v.y cx cy) is_at z

    pub decided-located : {C : Counts} {L : Links} {p : ℕ → Point} {e : ℕ} {d : Decision} → e ≡ located C L (turns_about cx cy p) (turns g)
        → Decides C L p cx cy v (decided_at C L p (turns_about cx cy p) v (turns g) e) d
        → Decides C L p cx cy v (decided cx cy C L p v) d
    decided-located {C} {L} {p} {e} {d} is-located D =
        let α = turns_about cx cy p in
        let x = ap turns angle-is.1 in
        subst (λ (E : Decided). Decides C L p cx cy v E d)
        (ap₂ (decided_at C L p α v) x (is-located ∙ ap (λ (i : ℕ). located C L α i) x) ∙ sym (decided-some cx cy C L p v angle-is.0)) D
