-- The crossings of a triangle that turns left total at least 0, and 1 where the point is inside. Assumes nothing.
use Rattle.std.specs.Prelude.{◌≡◌, refl, Bool, true, false, T, pos, neg_ℤ, ◌+ℤ◌, ◌<ℤ◌, ◌≤ℤ◌}
use Rattle.std.proofs.Common.{sym, ◌∙◌}
use Rattle.std.proofs.Math.Logic.{⊎_elim}
use Rattle.std.specs.Int.Signed.{lt_z, lt_z_yes, le_z_yes}
use Rattle.algebra.proofs.Sign.{◌*⁺◌, ◌*°◌, ◌+⁺◌, weak, pos-in, lt_in, le_in, cases, refute}
use Rattle.sums.specs.Bit.{bit}
use Rattle.math.specs.declared.Point.{Point}
use Rattle.math.specs.Determinant.{Orient2d, orient2d}
use Rattle.math.proofs.Plane.{E·, A, B, C, D, env, orient2d-next}
use Rattle.covering.specs.Crossing.{under, crossings}
use Rattle.covering.specs.CrossingLaws.{crossings-next, crossing-level, crossing-up, crossing-down, under-yes, under-no}

-- ---- heights
module _ (q a b c : Point) (left : pos 0 <ℤ orient2d a b c) where
  -- a alone is lower than q. Where q is strictly right of c a it is strictly left of a b: else, the triangle being
  -- left-turning, it were strictly left of b c, and the heights of a, b and c over q, each times q's area with the edge
  -- across, could not total 0
  one-under : a.y <ℤ q.y → q.y ≤ℤ b.y → q.y ≤ℤ c.y → pos 0 <ℤ orient2d a c q → pos 0 <ℤ orient2d a b q
  unfolding orient2d
  one-under ha hb hc h =
      let ρ = env a b c q in
      let S = pos-in ρ (Orient2d E· A B C) left in let y = pos-in ρ (Orient2d E· A C D) h in
      ⊎_elim (λ k. k.is)
      (λ n. absurd (refute ((S +⁺ weak y +⁺ n) *⁺ lt_in ρ A.y D.y ha +⁺ weak y *° le_in ρ D.y B.y hb +⁺ n *° le_in ρ D.y C.y hc) tt))
      (cases ρ (Orient2d E· A B D))

  -- a and b are lower than q
  two-under : a.y <ℤ q.y → b.y <ℤ q.y → q.y ≤ℤ c.y → pos 0 <ℤ orient2d a c q → pos 0 <ℤ orient2d b c q
  unfolding orient2d
  two-under ha hb hc h =
      let ρ = env a b c q in
      let S = pos-in ρ (Orient2d E· A B C) left in let y = pos-in ρ (Orient2d E· A C D) h in
      ⊎_elim (λ k. k.is)
      (λ n. absurd (refute (y *⁺ lt_in ρ B.y D.y hb +⁺ n *° weak (lt_in ρ A.y D.y ha) +⁺ weak (S +⁺ weak y +⁺ n) *° le_in ρ D.y C.y hc) tt))
      (cases ρ (Orient2d E· B C D))

  one-crossings : under q a ≡ true → under q b ≡ false → under q c ≡ false → pos 0 ≤ℤ crossings q a b c
  one-crossings ua ub uc =
      rw (crossing-up q a b ua ub, crossing-level q b c (ub ∙ sym uc), crossing-down q c a uc ua)
      (bits (lt_z (pos 0) (orient2d a b q)) (lt_z (pos 0) (orient2d a c q))
      (λ t. (one-under (under-yes q a ua) (under-no q b ub) (under-no q c uc) (lt_z_yes t)).lt))
    where
      bits : (x y : Bool) → (T y → T x) → pos 0 ≤ℤ (pos (bit x) +ℤ pos 0 +ℤ neg_ℤ (pos (bit y)))
      bits true true h = le_z_yes tt
      bits true false h = le_z_yes tt
      bits false true h = absurd (h tt)
      bits false false h = le_z_yes tt

  two-crossings : under q a ≡ true → under q b ≡ true → under q c ≡ false → pos 0 ≤ℤ crossings q a b c
  two-crossings ua ub uc =
      rw (crossing-level q a b (ua ∙ sym ub), crossing-up q b c ub uc, crossing-down q c a uc ua)
      (bits (lt_z (pos 0) (orient2d b c q)) (lt_z (pos 0) (orient2d a c q))
      (λ t. (two-under (under-yes q a ua) (under-yes q b ub) (under-no q c uc) (lt_z_yes t)).lt))
    where
      bits : (x y : Bool) → (T y → T x) → pos 0 ≤ℤ (pos 0 +ℤ pos (bit x) +ℤ neg_ℤ (pos (bit y)))
      bits true true h = le_z_yes tt
      bits true false h = le_z_yes tt
      bits false true h = absurd (h tt)
      bits false false h = le_z_yes tt

  level-crossings : {u : Bool} → under q a ≡ u → under q b ≡ u → under q c ≡ u → pos 0 ≤ℤ crossings q a b c
  level-crossings ua ub uc =
      rw (crossing-level q a b (ua ∙ sym ub), crossing-level q b c (ub ∙ sym uc), crossing-level q c a (uc ∙ sym ua)) (le_z_yes tt)

-- THE TOTAL is at least 0
pub crossings-nonneg : (q a b c : Point) → pos 0 <ℤ orient2d a b c → pos 0 ≤ℤ crossings q a b c
crossings-nonneg q a b c h = go (under q a) (under q b) (under q c) refl refl refl
  where
    h₁ : pos 0 <ℤ orient2d b c a
    h₁ = rw orient2d-next at h

    h₂ : pos 0 <ℤ orient2d c a b
    h₂ = rw orient2d-next at h₁

    go : (u v w : Bool) → under q a ≡ u → under q b ≡ v → under q c ≡ w → pos 0 ≤ℤ crossings q a b c
    go true true true ua ub uc = level-crossings q a b c h ua ub uc
    go false false false ua ub uc = level-crossings q a b c h ua ub uc
    go true false false ua ub uc = one-crossings q a b c h ua ub uc
    go false true false ua ub uc = rw (crossings-next q a b c) (one-crossings q b c a h₁ ub uc ua)
    go false false true ua ub uc = rw (crossings-next q a b c, crossings-next q b c a) (one-crossings q c a b h₂ uc ua ub)
    go true true false ua ub uc = two-crossings q a b c h ua ub uc
    go false true true ua ub uc = rw (crossings-next q a b c) (two-crossings q b c a h₁ ub uc ua)
    go true false true ua ub uc = rw (crossings-next q a b c, crossings-next q b c a) (two-crossings q c a b h₂ uc ua ub)
