-- A position on the line of a side of a triangle that turns left, and strictly left of the other two, is strictly inside
-- that side; and a position strictly inside a triangle, or one of its sides, is strictly inside its circle. Polynomial
-- identities, and signs by certificates. Assumes nothing.
use Rattle.std.specs.Prelude.{◌≡◌, List, ℤ, pos, ◌<ℤ◌}
use Rattle.std.proofs.Math.Logic.{⊎_elim}
use Rattle.algebra.specs.Ring.{E, num, ◌⊕◌, ◌⊖◌, ◌⊗◌, ⊝◌}
use Rattle.algebra.proofs.Sign.{Pos, NN, ◌*⁺◌, ◌*°◌, ◌+⁺◌, ◌+°◌, weak, sq, pos-in, cases, refute, eq-in, zero°, ◌*⁰◌}
use Rattle.math.specs.declared.Point.{Point}
use Rattle.math.specs.Determinant.{Pt, Orient2d, Incircle, Factor, orient2d, incircle, factor}
use Rattle.math.proofs.Plane.{E·, A, B, C, D, env}
use Rattle.insertion.specs.Plane.{Inside, Between}

module _ (a b c v : Point) (h : pos 0 <ℤ orient2d a b c) where
  abbrev ρ : List ℤ
  ρ = env a b c v

  abbrev side : Pt E → Pt E → E
  side p q = (q.x ⊖ p.x) ⊗ (q.x ⊖ p.x) ⊕ (q.y ⊖ p.y) ⊗ (q.y ⊖ p.y)

  long : (p q : Pt E) → NN ρ (side p q)
  long p q = sq (q.x ⊖ p.x) +° sq (q.y ⊖ p.y)

  S : Pos ρ (Orient2d E· A B C)
  unfolding orient2d
  S = pos-in ρ (Orient2d E· A B C) h

  -- a side has a length: |b - a|² |c - a|² is the area's square and that of the dot product
  side-ab : Pos ρ (side A B)
  side-ab = ⊎_elim (λ k. k) (λ k. absurd (no k)) (cases ρ (side A B))
    where
      no : NN ρ (⊝ side A B) → ⊥
      no k = refute (S *⁺ S +⁺ sq (Factor E· A B C) +⁺ k *° long A C) tt

  -- on the line of a and b, and strictly left of the other two sides: S (v - a) = [c a v] (b - a) and S (v - b) = [b c v] (a - b)
  pub strict-between : orient2d a b v ≡ pos 0 → pos 0 <ℤ orient2d b c v → pos 0 <ℤ orient2d c a v → Between a b v
  unfolding orient2d factor
  strict-between q hb hc = record {
    line = q;
    after = ⊎_elim (λ k. k.is) (λ k. absurd (one k)) (cases ρ (Factor E· A B D));
    before = ⊎_elim (λ k. k.is) (λ k. absurd (two k)) (cases ρ (Factor E· B A D));
  }
    where
      one : NN ρ (⊝ Factor E· A B D) → ⊥
      one k = refute (pos-in ρ (Orient2d E· C A D) hc *⁺ side-ab +⁺ weak S *° k +⁺ zero° (Factor E· A B C *⁰ eq-in ρ (Orient2d E· A B D) (num (pos 0)) q)) tt

      two : NN ρ (⊝ Factor E· B A D) → ⊥
      two k = refute (pos-in ρ (Orient2d E· B C D) hb *⁺ side-ab +⁺ weak S *° k +⁺ zero° (Factor E· B A C *⁰ eq-in ρ (Orient2d E· A B D) (num (pos 0)) q)) tt

  -- ---- inside the circle: S incircle = [b c v] [c a v] |a - b|² + [c a v] [a b v] |b - c|² + [a b v] [b c v] |c - a|²
  pub inside-circle : Inside a b c v → pos 0 <ℤ incircle a b c v
  unfolding orient2d incircle
  inside-circle I = ⊎_elim (λ k. k.is) (λ k. absurd (no k)) (cases ρ (Incircle E· A B C D))
    where
      no : NN ρ (⊝ Incircle E· A B C D) → ⊥
      no k =
          let ab = pos-in ρ (Orient2d E· A B D) I.ab in let bc = pos-in ρ (Orient2d E· B C D) I.bc in let ca = pos-in ρ (Orient2d E· C A D) I.ca in
          refute (bc *⁺ ca *⁺ side-ab +⁺ weak ca *° weak ab *° long B C +⁺ weak ab *° weak bc *° long A C +⁺ weak S *° k) tt

  pub between-circle : Between a b v → pos 0 <ℤ orient2d b c v → pos 0 <ℤ orient2d c a v → pos 0 <ℤ incircle a b c v
  unfolding orient2d incircle
  between-circle B· hb hc = ⊎_elim (λ k. k.is) (λ k. absurd (no k)) (cases ρ (Incircle E· A B C D))
    where
      no : NN ρ (⊝ Incircle E· A B C D) → ⊥
      no k =
          let bc = pos-in ρ (Orient2d E· B C D) hb in let ca = pos-in ρ (Orient2d E· C A D) hc in
          refute (bc *⁺ ca *⁺ side-ab +⁺ weak S *° k
          +⁺ zero° ((Orient2d E· C A D ⊗ side B C ⊕ Orient2d E· B C D ⊗ side A C) *⁰ eq-in ρ (Orient2d E· A B D) (num (pos 0)) B·.line)) tt
