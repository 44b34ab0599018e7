-- On which side of a line the centre is, in numbers of 64 bits. With d from a to b and the sum s, three times the doubled
-- area is 2 ^ 25 times high * 2 ^ 25 + low, where high is the cross product of d and s - 3 a, and low that of d and s:
-- because 3 * 11184811 is 2 ^ 25 + 1. Assumes nothing.
use Rattle.std.specs.Prelude.{true, false, List, [], ◌∷◌, ◌≡◌, refl, ◌≤◌, T, ℤ, pos, neg_ℤ, nat_abs, ◌+ℤ◌, ◌-ℤ◌, ◌*ℤ◌, ◌<ℤ◌}
use Rattle.std.proofs.Math.Logic.{⊎_elim}
use Rattle.std.proofs.Common.{sym, le_trans, lit≤}
use Rattle.std.specs.Int.Signed.{lt_z, lt_z_yes, le_z_yes}
use Rattle.algebra.proofs.Bound.{[]ᵉ, ◌∷ᵉ◌, within, abs-le, abs-ge}
use Rattle.algebra.specs.Ring.{E, num, ◌⊕◌, ◌⊖◌, ◌⊗◌, ⊝◌}
use Rattle.algebra.proofs.RingLaws.{v0, v1, v2, v3, v4, v5}
use Rattle.algebra.proofs.Sign.{Pos, NN, ◌*⁺◌, ◌*°◌, ◌+⁺◌, weak, pos-in, nn-in, lt_in, le_in, lt_by, cases, refute}
use Rattle.sums.specs.Bit.{test-ext}
use Rattle.sums.proofs.BitLaws.{is_true, is_false}
use Rattle.hull_center.specs.declared.PositionSum.{PositionSum}
use Rattle.hull_center.specs.HullCenter.{SmallSum, scaled, fine_center, is_center_left}
use Rattle.math.specs.declared.Point.{Point}
use Rattle.math.specs.declared.Vector.{Vector}
use Rattle.math.specs.Determinant.{Orient2d, InRange, orient2d}
use Rattle.math.proofs.Plane.{E·}
use Rattle.math.specs.Vector.{Short, difference}

-- ---- what the code computes
-- at most 3 * 2 ^ 25 in size
pub record WideSum (s : PositionSum) : Type 0 where
  pub x : nat_abs s.x ≤ 100663296
  pub y : nat_abs s.y ≤ 100663296

unfoldable pub less_three : PositionSum → Point → PositionSum
less_three s a = record { x = s.x -ℤ pos 3 *ℤ a.x; y = s.y -ℤ pos 3 *ℤ a.y }

unfoldable pub cross_sum : Vector → PositionSum → ℤ
cross_sum d s = d.x *ℤ s.y -ℤ d.y *ℤ s.x

-- ---- their sizes
pub small-wide : {s : PositionSum} → SmallSum s → WideSum s
small-wide h = record { x = le_trans h.x (lit≤ tt); y = le_trans h.y (lit≤ tt) }

pub less-three-wide : {s : PositionSum} {a : Point} → SmallSum s → InRange a → WideSum (less_three s a)
unfolding less_three
less-three-wide {s} {a} h k = record { x = less s.x a.x h.x k.x; y = less s.y a.y h.y k.y }
  where
    less : (x y : ℤ) → nat_abs x ≤ 50331648 → nat_abs y ≤ 16777216 → nat_abs (x -ℤ pos 3 *ℤ y) ≤ 100663296
    less x y h k = within {ρ = x ∷ y ∷ []} (h ∷ᵉ k ∷ᵉ []ᵉ) (v0 ⊖ num (pos 3) ⊗ v1)

-- low is at most 3 * 2 ^ 50
pub cross-small : {d : Vector} {s : PositionSum} → Short d → SmallSum s → nat_abs (cross_sum d s) ≤ 3377699720527872
unfolding cross_sum
cross-small {d} {s} h k =
    within {ρ = d.x ∷ d.y ∷ s.x ∷ s.y ∷ []} (h.x ∷ᵉ h.y ∷ᵉ k.x ∷ᵉ k.y ∷ᵉ []ᵉ) (v0 ⊗ v3 ⊖ v1 ⊗ v2)

-- ---- the sign of high * 2 ^ 25 + low
abbrev K : E
K = num (pos 33554432)

module _ {ρ : List ℤ} where
  K⁺ : Pos ρ K
  K⁺ = pos-in ρ K (lt_z_yes tt)

-- a high above 2 ^ 27 in size has the sign of the whole
module _ (h l : ℤ) (small : nat_abs l ≤ 3377699720527872) where
  abbrev ρ : List ℤ
  ρ = h ∷ l ∷ []

  abbrev M : E
  M = num (pos 3377699720527872)

  rest : NN ρ (num (pos 1125899906842624))
  rest = nn-in ρ (num (pos 1125899906842624)) (le_z_yes tt)

  pub high-positive : pos 134217728 <ℤ h → true ≡ lt_z (pos 0) (h *ℤ pos 33554432 +ℤ l)
  high-positive t =
      sym (is_true _
      (lt_by (K⁺ *⁺ lt_in ρ (num (pos 134217728)) v0 t +⁺ le_in ρ (⊝ M) v1 (abs-ge small) +⁺ rest) (num (pos 0)) (v0 ⊗ K ⊕ v1) refl).lt)

  pub high-negative : h <ℤ neg_ℤ (pos 134217728) → false ≡ lt_z (pos 0) (h *ℤ pos 33554432 +ℤ l)
  high-negative t =
      let below = K⁺ *⁺ lt_in ρ v0 (num (neg_ℤ (pos 134217728))) t +⁺ le_in ρ v1 M (abs-le small) +⁺ rest in
      sym (is_false _ (λ u. refute (below +⁺ weak (pos-in ρ (v0 ⊗ K ⊕ v1) (lt_z_yes u))) tt))

-- ---- the side
module _ (a b : Point) (s : PositionSum) where
  abbrev env : List ℤ
  env = a.x ∷ a.y ∷ b.x ∷ b.y ∷ s.x ∷ s.y ∷ []

  abbrev area : E
  area = Orient2d E· (record { x = v0 ⊗ K; y = v1 ⊗ K }) (record { x = v2 ⊗ K; y = v3 ⊗ K })
      (record { x = v4 ⊗ num (pos 11184811); y = v5 ⊗ num (pos 11184811) })

  abbrev high : E
  high = (v2 ⊖ v0) ⊗ (v5 ⊖ num (pos 3) ⊗ v1) ⊖ (v3 ⊖ v1) ⊗ (v4 ⊖ num (pos 3) ⊗ v0)

  abbrev low : E
  low = (v2 ⊖ v0) ⊗ v5 ⊖ (v3 ⊖ v1) ⊗ v4

  three⁺ : Pos env (num (pos 3))
  three⁺ = pos-in env (num (pos 3)) (lt_z_yes tt)

  abbrev total : ℤ
  total = cross_sum (difference b a) (less_three s a) *ℤ pos 33554432 +ℤ cross_sum (difference b a) s

  left-of : T (lt_z (pos 0) total) → T (is_center_left a b s)
  unfolding is_center_left orient2d scaled fine_center cross_sum difference less_three
  left-of t =
      ⊎_elim (λ k. k.is.lt) (λ k. absurd (refute (K⁺ *⁺ pos-in env (high ⊗ K ⊕ low) (lt_z_yes t) +⁺ weak three⁺ *° k) tt)) (cases env area)

  left_back : T (is_center_left a b s) → T (lt_z (pos 0) total)
  unfolding is_center_left orient2d scaled fine_center cross_sum difference less_three
  left_back t =
      ⊎_elim (λ k. k.is.lt) (λ k. absurd (refute (three⁺ *⁺ pos-in env area (lt_z_yes t) +⁺ weak K⁺ *° k) tt)) (cases env (high ⊗ K ⊕ low))

  pub center-side : lt_z (pos 0) total ≡ is_center_left a b s
  center-side = test-ext (lt_z (pos 0) total) (is_center_left a b s) left-of left_back
