-- Laws of specs/Plane.antt.
use Rattle.std.specs.Prelude.{◌≡◌, pos, neg_ℤ, ◌+ℤ◌, ◌<ℤ◌}
use Rattle.std.proofs.Math.Path.{refl}
use Rattle.std.proofs.Common.{sym, ◌∙◌, ap}
use mathlib.Core.List.{List, [], ◌∷◌}
use Rattle.std.proofs.Math.Logic.{⊎_elim}
use Rattle.std.proofs.Math.IntN.{ℤ}
use Rattle.algebra.specs.Ring.{var, num, ◌⊕◌, ◌⊖◌, ⊝◌}
use Rattle.algebra.proofs.RingLaws.{ring, v0, v1, v2, v3, v4, v5, v6, v7}
use Rattle.algebra.proofs.Sign.{NN, ◌*⁺◌, ◌*°◌, ◌+⁺◌, ◌+°◌, sq, pos-in, cases, refute, eq-in, eq-by, zero°, ◌*⁰◌, ◌+⁰◌}
use Rattle.math.specs.declared.Point.{Point}
use Rattle.math.specs.Determinant.{Lift, Orient2d, Incircle, Height, Factor, orient2d, incircle, height, factor}
use Rattle.math.proofs.Plane.{E·, A, B, C, D, env, orient2d-next, orient2d-swap, height-swap}
use Rattle.insertion.specs.Plane.{Between, InsideFour}

module _ (a b c v : Point) where
  -- ---- the triangle a b c split at v
  pub three-areas : orient2d a b v +ℤ orient2d b c v +ℤ orient2d c a v ≡ orient2d a b c
  unfolding orient2d
  three-areas = ring (env a b c v) (Orient2d E· A B D ⊕ Orient2d E· B C D ⊕ Orient2d E· C A D) (Orient2d E· A B C) refl

  pub three-heights : height a b v +ℤ height b c v +ℤ height c a v +ℤ incircle a b c v ≡ height a b c
  unfolding height incircle
  three-heights = ring (env a b c v) (Height E· A B D ⊕ Height E· B C D ⊕ Height E· C A D ⊕ Incircle E· A B C D) (Height E· A B C) refl

  -- ---- split at a point v of the line of a and b
  pub two-areas : orient2d a b v ≡ pos 0 → orient2d a v c +ℤ orient2d v b c ≡ orient2d a b c
  unfolding orient2d
  two-areas h = eq-by (eq-in (env a b c v) (num (pos 0)) (Orient2d E· A B D) (sym h)) (Orient2d E· A D C ⊕ Orient2d E· D B C) (Orient2d E· A B C) refl

  pub two-heights : orient2d a b v ≡ pos 0 → height a v c +ℤ height v b c +ℤ incircle a b c v ≡ height a b c
  unfolding orient2d height incircle
  two-heights h = eq-by ((Lift E· A ⊕ Lift E· B ⊕ Lift E· D) *⁰ eq-in (env a b c v) (num (pos 0)) (Orient2d E· A B D) (sym h))
      (Height E· A D C ⊕ Height E· D B C ⊕ Incircle E· A B C D) (Height E· A B C) refl

  -- strictly between a and b: both parts turn left, if the whole does.
  -- With u = b - a, w = v - a and z = c - a, |u|² (w × z) = (w · u) (u × z) - (u × w) (u · z)
  pub between_first : pos 0 <ℤ orient2d a b c → Between a b v → pos 0 <ℤ orient2d a v c
  unfolding orient2d factor
  between_first h B· = ⊎_elim (λ k. k.is) (λ k. absurd (no k)) (cases ρ (Orient2d E· A D C))
    where
      ρ : List ℤ
      ρ = env a b c v

      no : NN ρ (⊝ Orient2d E· A D C) → ⊥
      no k = refute (pos-in ρ (Factor E· A B D) B·.after *⁺ pos-in ρ (Orient2d E· A B C) h
          +⁺ (sq (B.x ⊖ A.x) +° sq (B.y ⊖ A.y)) *° k
          +⁺ zero° (Factor E· A B C *⁰ eq-in ρ (num (pos 0)) (Orient2d E· A B D) (sym B·.line))) tt

  pub between-second : pos 0 <ℤ orient2d a b c → Between a b v → pos 0 <ℤ orient2d v b c
  unfolding orient2d factor
  between-second h B· = ⊎_elim (λ k. k.is) (λ k. absurd (no k)) (cases ρ (Orient2d E· D B C))
    where
      ρ : List ℤ
      ρ = env a b c v

      no : NN ρ (⊝ Orient2d E· D B C) → ⊥
      no k = refute (pos-in ρ (Factor E· B A D) B·.before *⁺ pos-in ρ (Orient2d E· A B C) h
          +⁺ (sq (B.x ⊖ A.x) +° sq (B.y ⊖ A.y)) *° k
          +⁺ zero° (Factor E· B A C *⁰ eq-in ρ (num (pos 0)) (Orient2d E· A B D) (sym B·.line))) tt

-- strictly between the other way round
pub between-rev : {a b m : Point} → Between a b m → Between b a m
between-rev {a} {b} {m} h = record { line = orient2d-swap a b m ∙ ap neg_ℤ h.line; after = h.before; before = h.after }

-- strictly between the ends of their common side, v is strictly left of the other sides of two triangles that turn left
pub between-four : (a b c d v : Point) → pos 0 <ℤ orient2d a b c → pos 0 <ℤ orient2d b a d → Between a b v → InsideFour a b c d v
between-four a b c d v h k B· = record {
  ca = rw (orient2d-next c a v) (between_first a b c v h B·);
  ad = rw (orient2d-next a d v, orient2d-next d v a) (between-second b a d v k (between-rev B·));
  db = rw (orient2d-next d b v) (between_first b a d v k (between-rev B·));
  bc = rw (orient2d-next b c v, orient2d-next c v b) (between-second a b c v h B·);
}

module _ (a b c d v : Point) where
  pub four-areas : orient2d c a v +ℤ orient2d a d v +ℤ orient2d d b v +ℤ orient2d b c v ≡ orient2d a b c +ℤ orient2d b a d
  four-areas =
      let ρ = orient2d c a v ∷ orient2d a d v ∷ orient2d d b v ∷ orient2d b c v ∷ orient2d a b c ∷ orient2d b a d ∷ orient2d a b v ∷ orient2d b a v ∷ [] in
      eq-by (eq-in ρ (v6 ⊕ v3 ⊕ v0) v4 (three-areas a b c v) +⁰ eq-in ρ (v7 ⊕ v1 ⊕ v2) v5 (three-areas b a d v) +⁰ eq-in ρ (⊝ v6) v7 (sym (orient2d-swap a b v)))
      (v0 ⊕ v1 ⊕ v2 ⊕ v3) (v4 ⊕ v5) refl

  pub four-heights : height c a v +ℤ height a d v +ℤ height d b v +ℤ height b c v +ℤ (incircle a b c v +ℤ incircle b a d v)
      ≡ height a b c +ℤ height b a d
  four-heights =
      let ρ = height c a v ∷ height a d v ∷ height d b v ∷ height b c v ∷ height a b c ∷ height b a d ∷ height a b v ∷ height b a v ∷ incircle a b c v ∷ incircle b a d v ∷ [] in
      eq-by (eq-in ρ (v6 ⊕ v3 ⊕ v0 ⊕ var 8) v4 (three-heights a b c v) +⁰ eq-in ρ (v7 ⊕ v1 ⊕ v2 ⊕ var 9) v5 (three-heights b a d v) +⁰ eq-in ρ (⊝ v6) v7 (sym (height-swap a b v)))
      (v0 ⊕ v1 ⊕ v2 ⊕ v3 ⊕ (var 8 ⊕ var 9)) (v4 ⊕ v5) refl
