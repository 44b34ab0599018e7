-- Laws of specs/Straight.antt.
use Rattle.std.specs.Prelude.{◌≡◌, refl, List, [], ◌∷◌, ℕ, suc, ◌<◌, ℤ, pos, ◌<ℤ◌, ◌≤ℤ◌}
use Rattle.std.proofs.Common.{⊎_elim}
use Rattle.algebra.specs.Ring.{E, var, num, ◌⊕◌, ◌⊖◌, ◌⊗◌, ⊝◌}
use Rattle.algebra.proofs.RingLaws.{#◌}
use Rattle.algebra.proofs.Sign.{Pos, NN, ◌*⁺◌, ◌*°◌, ◌+⁺◌, ◌+°◌, ◌*⁰◌, weak, sq, pos-in, nn-in, lt_in, cases, nn-by, le-by, eq-in, zero°, refute}
use Rattle.math.specs.declared.Point.{Point}
use Rattle.math.specs.Determinant.{Pt, Orient2d, Incircle, Minus, Dot, Factor, orient2d, incircle, factor}
use Rattle.math.proofs.Plane.{E·, A, B, C, D, env, env3}
use Rattle.mesh.specs.declared.Counts.{Counts}
use Rattle.line.specs.Order.{key}

-- d on the line through a and b, and not between them, is not inside the circle of a, b and c
-- incircle a b c d = [a b d] (c - a)(c - b) - [a b c] (d - a)(d - b)
pub beyond-circle : (a b c d : Point) → pos 0 <ℤ orient2d a b c → orient2d a b d ≡ pos 0 → pos 0 ≤ℤ factor d a b → incircle a b c d ≤ℤ pos 0
unfolding orient2d incircle factor
beyond-circle a b c d h z k = ⊎_elim (λ i. absurd (no i)) (λ i. le-by i (Incircle E· A B C D) (num (pos 0)) refl) (cases ρ (Incircle E· A B C D))
  where
    ρ : List ℤ
    ρ = env a b c d

    no : Pos ρ (Incircle E· A B C D) → ⊥
    no i = refute (i +⁺ weak (pos-in ρ (Orient2d E· A B C) h) *° nn-in ρ (Factor E· D A B) k
        +⁺ zero° (⊝ Dot E· (Minus E· C A) (Minus E· C B) *⁰ eq-in ρ (Orient2d E· A B D) (num (pos 0)) z)) tt

abbrev Key : Pt E → E
Key q = q.x ⊗ # 33554433 ⊕ q.y

-- a, b and c in this order along a line: c is not between a and b
pub beyond-up : (a b c : Point) → key a <ℤ key b → key b <ℤ key c → orient2d a b c ≡ pos 0 → pos 0 ≤ℤ factor c a b
unfolding key orient2d factor
beyond-up a b c h k z = ⊎_elim (λ i. absurd (no i)) (λ i. (nn-by i (Factor E· C A B) refl).is) (cases ρ (⊝ Factor E· C A B))
  where
    ρ : List ℤ
    ρ = env3 a b c

    bc : Pos ρ (Key C ⊖ Key B)
    bc = lt_in ρ (Key B) (Key C) k

    ab : Pos ρ (Key B ⊖ Key A)
    ab = lt_in ρ (Key A) (Key B) h

    no : Pos ρ (⊝ Factor E· C A B) → ⊥
    no i = refute (i *⁺ bc +⁺ (sq (Minus E· C B).x +° sq (Minus E· C B).y) *° (weak bc +° weak ab)
        +⁺ zero° (((Minus E· C B).x ⊖ # 33554433 ⊗ (Minus E· C B).y) *⁰ eq-in ρ (Orient2d E· A B C) (num (pos 0)) z)) tt

pub beyond-down : (a b c : Point) → key b <ℤ key a → key c <ℤ key b → orient2d a b c ≡ pos 0 → pos 0 ≤ℤ factor c a b
unfolding key orient2d factor
beyond-down a b c h k z = ⊎_elim (λ i. absurd (no i)) (λ i. (nn-by i (Factor E· C A B) refl).is) (cases ρ (⊝ Factor E· C A B))
  where
    ρ : List ℤ
    ρ = env3 a b c

    bc : Pos ρ (Key B ⊖ Key C)
    bc = lt_in ρ (Key C) (Key B) k

    ab : Pos ρ (Key A ⊖ Key B)
    ab = lt_in ρ (Key B) (Key A) h

    no : Pos ρ (⊝ Factor E· C A B) → ⊥
    no i = refute (i *⁺ bc +⁺ (sq (Minus E· C B).x +° sq (Minus E· C B).y) *° (weak bc +° weak ab)
        +⁺ zero° (⊝ ((Minus E· C B).x ⊖ # 33554433 ⊗ (Minus E· C B).y) *⁰ eq-in ρ (Orient2d E· A B C) (num (pos 0)) z)) tt
