-- Turns to the right, where one of the two directions is exchanged for another that points the same way; and the two
-- parts of an edge point where the edge does. Assumes nothing.
use Rattle.std.proofs.Common.{inl, inr, ⊎_elim}
use Rattle.std.specs.Prelude.{◌≡◌, refl}
use Rattle.algebra.specs.Ring.{⊝◌}
use Rattle.algebra.proofs.RingLaws.{#◌}
use Rattle.algebra.proofs.Sign.{◌*⁺◌, ◌*°◌, ◌+⁺◌, ◌+°◌, sq, pos-in, lt_in, lt_by, cases, refute, eq-in, eq-by, zero°, ◌*⁰◌}
use Rattle.sums.specs.Bit.{test-ext}
use Rattle.math.specs.declared.Point.{Point}
use Rattle.math.specs.declared.Vector.{Vector}
use Rattle.math.specs.Determinant.{Dot, Minus, Orient2d, Factor, orient2d, factor}
use Rattle.math.proofs.Plane.{E·, A, B, C, env3}
use Rattle.math.specs.Vector.{difference, cross_of, dot_of}
use Rattle.insertion.specs.Plane.{Between}
use Rattle.outline.specs.Outline.{upper}
use Rattle.outline.proofs.VectorLaws.{Cross, vectors}
use Rattle.outline.specs.HalfPlane.{SameWay}
use Rattle.outline.proofs.HalfPlaneLaws.{RightTurn, same-way-sym, same-way-trans, upper-half}

-- (d × u)(u · w) + (d · u)(u × w) = (d × w) |u|²
pub turn-into : (d u w : Vector) → SameWay u w → RightTurn d u → RightTurn d w
unfolding cross_of dot_of
turn-into d u w s (inl h) =
    let ρ = vectors d u w w in
    inl (⊎_elim (λ k. lt_by k (Cross A C) (# 0) refl)
    (λ k. absurd (refute (lt_in ρ (Cross A B) (# 0) h *⁺ pos-in ρ (Dot E· B C) s.ahead +⁺ k *° (sq B.x +° sq B.y)
    +⁺ zero° ((⊝ Dot E· A B) *⁰ eq-in ρ (Cross B C) (# 0) s.parallel)) tt))
    (cases ρ (⊝ Cross A C)))
turn-into d u w s (inr t) = inr (same-way-trans d u w t s)

-- (w × d) |u|² = (u · w)(u × d) - (u × w)(u · d)
pub turn-from : (u w d : Vector) → SameWay u w → RightTurn u d → RightTurn w d
unfolding cross_of dot_of
turn-from u w d s (inl h) =
    let ρ = vectors u w d d in
    inl (⊎_elim (λ k. lt_by k (Cross B C) (# 0) refl)
    (λ k. absurd (refute (lt_in ρ (Cross A C) (# 0) h *⁺ pos-in ρ (Dot E· A B) s.ahead +⁺ k *° (sq A.x +° sq A.y)
    +⁺ zero° (Dot E· A C *⁰ eq-in ρ (Cross A B) (# 0) s.parallel)) tt))
    (cases ρ (⊝ Cross B C)))
turn-from u w d s (inr t) = inr (same-way-trans w u d (same-way-sym s) t)

pub same-upper : (u w : Vector) → SameWay u w → upper w ≡ upper u
same-upper u w s = test-ext (upper w) (upper u) (upper-half.ray w u (same-way-sym s)) (upper-half.ray u w s)

-- of the edge from b to a with v between: from b to v, and from v to a
module _ (a b v : Point) (Q : Between a b v) where
  pub first_part : SameWay (difference a b) (difference v b)
  unfolding cross_of dot_of difference orient2d factor
  first_part = let ρ = env3 a b v in record {
    parallel = eq-by ((⊝ # 1) *⁰ eq-in ρ (Orient2d E· A B C) (# 0) Q.line) (Cross (Minus E· A B) (Minus E· C B)) (# 0) refl;
    ahead = lt_by (pos-in ρ (Factor E· B A C) Q.before) (# 0) (Dot E· (Minus E· A B) (Minus E· C B)) refl;
  }

  pub second-part : SameWay (difference a b) (difference a v)
  unfolding cross_of dot_of difference orient2d factor
  second-part = let ρ = env3 a b v in record {
    parallel = eq-by (# 1 *⁰ eq-in ρ (Orient2d E· A B C) (# 0) Q.line) (Cross (Minus E· A B) (Minus E· A C)) (# 0) refl;
    ahead = lt_by (pos-in ρ (Factor E· A B C) Q.after) (# 0) (Dot E· (Minus E· A B) (Minus E· A C)) refl;
  }
