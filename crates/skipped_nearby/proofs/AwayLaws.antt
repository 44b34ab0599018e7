-- The direction away from the first edge: every edge that v sees, and every edge at v, goes to its right. Polynomial
-- identities, and signs by certificates. Assumes nothing.
use Rattle.std.specs.Prelude.{List, [], ◌∷◌, ◌≡◌, ℤ, pos, ◌<ℤ◌, ◌≤ℤ◌}
use Rattle.std.proofs.Math.Logic.{⊎_elim}
use Rattle.std.proofs.Math.Path.{refl}
use Rattle.algebra.specs.Ring.{E, var, ◌⊕◌, ◌⊖◌, ⊝◌}
use Rattle.algebra.proofs.RingLaws.{#◌}
use Rattle.algebra.proofs.Sign.{◌*⁺◌, ◌*°◌, ◌+⁺◌, ◌+°◌, weak, pos-in, nn-in, lt_in, le_in, lt_by, le-by, cases, refute, eq-in, zero°, ◌*⁰◌}
use Rattle.math.specs.declared.Point.{Point}
use Rattle.math.specs.declared.Vector.{Vector}
use Rattle.math.specs.Determinant.{Pt, Dot, Minus, Orient2d, orient2d}
use Rattle.math.proofs.Plane.{E·, A, B, C, D}
use Rattle.math.specs.Vector.{difference, cross_of, dot_of}
use Rattle.outline.proofs.VectorLaws.{Cross, vectors}
use Rattle.skipped_nearby.specs.Away.{away}

abbrev Y : Pt E
Y = record { x = var 8; y = var 9 }

abbrev Away : Pt E
Away = record { x = (C.x ⊖ A.x) ⊕ (C.x ⊖ B.x); y = (C.y ⊖ A.y) ⊕ (C.y ⊖ B.y) }

abbrev five : Point → Point → Point → Point → Point → List ℤ
five a b v x y = a.x ∷ a.y ∷ b.x ∷ b.y ∷ v.x ∷ v.y ∷ x.x ∷ x.y ∷ y.x ∷ y.y ∷ []

module _ (x y v a b : Point) (ha : orient2d x y a ≤ℤ pos 0) (hb : orient2d x y b ≤ℤ pos 0) where
  pub seen-away : pos 0 <ℤ orient2d x y v → cross_of (away a b v) (difference y x) <ℤ pos 0
  unfolding orient2d cross_of difference away
  seen-away h =
      let ρ = five a b v x y in
      let s = pos-in ρ (Orient2d E· D Y C) h in
      lt_by (s +⁺ weak s +⁺ le_in ρ (Orient2d E· D Y A) (# 0) ha +⁺ le_in ρ (Orient2d E· D Y B) (# 0) hb) (Cross Away (Minus E· Y D)) (# 0) refl

  pub level-away : pos 0 ≤ℤ orient2d x y v → cross_of (away a b v) (difference y x) ≤ℤ pos 0
  unfolding orient2d cross_of difference away
  level-away h =
      let ρ = five a b v x y in
      let s = nn-in ρ (Orient2d E· D Y C) h in
      le-by (s +° s +° le_in ρ (Orient2d E· D Y A) (# 0) ha +° le_in ρ (Orient2d E· D Y B) (# 0) hb) (Cross Away (Minus E· Y D)) (# 0) refl

-- the first two edges at v
module _ (a b v : Point) (h : pos 0 <ℤ orient2d a b v) where
  pub away-to : cross_of (away a b v) (difference v a) <ℤ pos 0
  unfolding orient2d cross_of difference away
  away-to = lt_by (pos-in (five a b v v v) (Orient2d E· A B C) h) (Cross Away (Minus E· C A)) (# 0) refl

  pub away-from : cross_of (away a b v) (difference b v) <ℤ pos 0
  unfolding orient2d cross_of difference away
  away-from = lt_by (pos-in (five a b v v v) (Orient2d E· A B C) h) (Cross Away (Minus E· B C)) (# 0) refl

-- two directions on one line that go to the right of d go the same way
module _ (d u w : Vector) (level : cross_of u w ≡ pos 0) where
  -- (d × w) |u|² = (d × u)(u · w) + (d · u)(u × w)
  pub ahead-first : cross_of d u ≤ℤ pos 0 → cross_of d w <ℤ pos 0 → pos 0 <ℤ dot_of u u → pos 0 <ℤ dot_of u w
  unfolding cross_of dot_of
  ahead-first hu hw n =
      let ρ = vectors d u w w in
      ⊎_elim (λ k. k.is)
      (λ k. absurd (refute (lt_in ρ (Cross A C) (# 0) hw *⁺ pos-in ρ (Dot E· B B) n +⁺ le_in ρ (Cross A B) (# 0) hu *° k
      +⁺ zero° (Dot E· A B *⁰ eq-in ρ (Cross B C) (# 0) level)) tt))
      (cases ρ (Dot E· B C))

  -- (d × u) |w|² = (d × w)(u · w) - (d · w)(u × w)
  pub ahead-second : cross_of d u <ℤ pos 0 → cross_of d w ≤ℤ pos 0 → pos 0 <ℤ dot_of w w → pos 0 <ℤ dot_of u w
  unfolding cross_of dot_of
  ahead-second hu hw n =
      let ρ = vectors d u w w in
      ⊎_elim (λ k. k.is)
      (λ k. absurd (refute (lt_in ρ (Cross A B) (# 0) hu *⁺ pos-in ρ (Dot E· C C) n +⁺ le_in ρ (Cross A C) (# 0) hw *° k
      +⁺ zero° ((⊝ Dot E· A C) *⁰ eq-in ρ (Cross B C) (# 0) level)) tt))
      (cases ρ (Dot E· B C))
