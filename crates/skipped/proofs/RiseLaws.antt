-- Laws of specs/Rise.antt.
use Rattle.std.specs.Prelude.{List, [], ◌∷◌, ◌≡◌, refl, ℤ, pos, ◌+ℤ◌, ◌-ℤ◌, ◌<ℤ◌, ◌≤ℤ◌}
use Rattle.std.proofs.Common.{⊎_elim, sym, subst}
use Rattle.algebra.specs.Ring.{E, ◌⊕◌, ◌⊖◌, ◌⊗◌, ⊝◌}
use Rattle.algebra.proofs.RingLaws.{#◌, ring}
use Rattle.algebra.proofs.Sign.{NN, zero°, eq-in, ◌*⁺◌, ◌*°◌, ◌+⁺◌, weak, pos-in, le_in, lt_by, le-by, cases, refute}
use Rattle.math.specs.declared.Point.{Point}
use Rattle.math.specs.declared.Vector.{Vector}
use Rattle.math.specs.Determinant.{Pt, Minus, Orient2d, orient2d}
use Rattle.math.proofs.Plane.{E·, A, B, C, D, env}
use Rattle.math.specs.Vector.{cross_of, difference}
use Rattle.skipped.specs.Rise.{RiseLeft, RiseRight}

abbrev Cross : Pt E → Pt E → E
Cross u v = u.x ⊗ v.y ⊖ u.y ⊗ v.x

abbrev vectors : Vector → Vector → Vector → Vector → List ℤ
vectors a b c d = a.x ∷ a.y ∷ b.x ∷ b.y ∷ c.x ∷ c.y ∷ d.x ∷ d.y ∷ []

-- v is strictly left of the step from a to b, and a, b, c do not turn left
pub seen-from : (v a b : Point) → cross_of (difference a v) (difference b v) ≡ orient2d a b v
unfolding cross_of difference orient2d
seen-from v a b = ring (env a b v v) (Cross (Minus E· A C) (Minus E· B C)) (Orient2d E· A B C) refl

corner-from : (v a b c : Point) → let u = difference a v in let w = difference b v in let x = difference c v in
    cross_of u w +ℤ cross_of w x -ℤ cross_of u x ≡ orient2d a b c
unfolding cross_of difference orient2d
corner-from v a b c = ring (env a b c v) (Cross (Minus E· A D) (Minus E· B D) ⊕ Cross (Minus E· B D) (Minus E· C D) ⊖ Cross (Minus E· A D) (Minus E· C D)) (Orient2d E· A B C) refl

-- ---- to the left, the cross products with e: (a × c) (b × e) = (b × c) (a × e) + (a × b) (c × e)
back : (a b c e : Vector) → pos 0 <ℤ cross_of a b → pos 0 <ℤ cross_of b c → (cross_of a b +ℤ cross_of b c -ℤ cross_of a c) ≤ℤ pos 0
    → pos 0 <ℤ cross_of b e → cross_of c e ≤ℤ cross_of b e → (pos 0 <ℤ cross_of a e) × (cross_of b e ≤ℤ cross_of a e)
unfolding cross_of
back a b c e ab bc turn be up = (lt_by (pos-in ρ (Cross B D) be +⁺ on) (# 0) (Cross A D) refl, le-by on (Cross B D) (Cross A D) refl)
  where
    ρ : List ℤ
    ρ = vectors a b c e

    on : NN ρ (⊝ (Cross B D ⊖ Cross A D))
    on = ⊎_elim
        (λ k. absurd (refute (pos-in ρ (Cross B C) bc *⁺ k +⁺ le_in ρ (Cross A B ⊕ Cross B C ⊖ Cross A C) (# 0) turn *° weak (pos-in ρ (Cross B D) be)
        +⁺ weak (pos-in ρ (Cross A B) ab) *° le_in ρ (Cross C D) (Cross B D) up) tt))
        (λ k. k) (cases ρ (Cross B D ⊖ Cross A D))

-- ---- to the right: (a × c) (e × b) = (b × c) (e × a) + (a × b) (e × c)
forth : (a b c e : Vector) → pos 0 <ℤ cross_of a b → pos 0 <ℤ cross_of b c → (cross_of a b +ℤ cross_of b c -ℤ cross_of a c) ≤ℤ pos 0
    → pos 0 <ℤ cross_of e b → cross_of e a ≤ℤ cross_of e b → (pos 0 <ℤ cross_of e c) × (cross_of e b ≤ℤ cross_of e c)
unfolding cross_of
forth a b c e ab bc turn eb up = (lt_by (pos-in ρ (Cross D B) eb +⁺ on) (# 0) (Cross D C) refl, le-by on (Cross D B) (Cross D C) refl)
  where
    ρ : List ℤ
    ρ = vectors a b c e

    on : NN ρ (⊝ (Cross D B ⊖ Cross D C))
    on = ⊎_elim
        (λ k. absurd (refute (pos-in ρ (Cross A B) ab *⁺ k +⁺ le_in ρ (Cross A B ⊕ Cross B C ⊖ Cross A C) (# 0) turn *° weak (pos-in ρ (Cross D B) eb)
        +⁺ weak (pos-in ρ (Cross B C) bc) *° le_in ρ (Cross D A) (Cross D B) up) tt))
        (λ k. k) (cases ρ (Cross D B ⊖ Cross D C))

pub rise-left : {v a b c : Point} {e : Vector} → pos 0 <ℤ orient2d a b v → pos 0 <ℤ orient2d b c v
    → orient2d a b c ≤ℤ pos 0 → RiseLeft v b c e → RiseLeft v a b e
rise-left {v} {a} {b} {c} {e} ab bc turn R =
    let r = back (difference a v) (difference b v) (difference c v) e
    (subst (λ (z : ℤ). pos 0 <ℤ z) (sym (seen-from v a b)) ab) (subst (λ (z : ℤ). pos 0 <ℤ z) (sym (seen-from v b c)) bc)
    (subst (λ (z : ℤ). z ≤ℤ pos 0) (sym (corner-from v a b c)) turn) R.above R.up in
    record { above = r.0; up = r.1 }

pub rise-right : {v a b c : Point} {e : Vector} → pos 0 <ℤ orient2d a b v → pos 0 <ℤ orient2d b c v
    → orient2d a b c ≤ℤ pos 0 → RiseRight v a b e → RiseRight v b c e
rise-right {v} {a} {b} {c} {e} ab bc turn R =
    let r = forth (difference a v) (difference b v) (difference c v) e
    (subst (λ (z : ℤ). pos 0 <ℤ z) (sym (seen-from v a b)) ab) (subst (λ (z : ℤ). pos 0 <ℤ z) (sym (seen-from v b c)) bc)
    (subst (λ (z : ℤ). z ≤ℤ pos 0) (sym (corner-from v a b c)) turn) R.above R.up in
    record { above = r.0; up = r.1 }

-- ---- where a chain of one step begins: from a to b
pub rise-end : {v a b : Point} → pos 0 <ℤ orient2d a b v → RiseLeft v a b (difference b v)
unfolding cross_of difference orient2d
rise-end {v} {a} {b} h = let ρ = env a b v v in record {
  above = subst (λ (z : ℤ). pos 0 <ℤ z) (sym (seen-from v a b)) h;
  up = le-by (weak (pos-in ρ (Orient2d E· A B C) h)) (Cross (Minus E· B C) (Minus E· B C)) (Cross (Minus E· A C) (Minus E· B C)) refl;
}

pub rise-step : {v a b : Point} → pos 0 <ℤ orient2d a b v → RiseLeft v a b (difference b a)
unfolding cross_of difference orient2d
rise-step {v} {a} {b} h = let ρ = env a b v v in record {
  above = lt_by (pos-in ρ (Orient2d E· A B C) h) (# 0) (Cross (Minus E· A C) (Minus E· B A)) refl;
  up = le-by (zero° (eq-in ρ (# 0) (# 0) refl)) (Cross (Minus E· B C) (Minus E· B A)) (Cross (Minus E· A C) (Minus E· B A)) refl;
}

-- the left end u of the finished chain, and its first step from a to b
pub rise-over : (v u a b : Point) → pos 0 <ℤ cross_of (difference u v) (difference b v)
    → pos 0 <ℤ cross_of (difference u v) (difference b a) → RiseRight v a b (difference u v)
unfolding cross_of difference
rise-over v u a b h k = let ρ = env a b u v in record {
  above = h;
  up = le-by (weak (pos-in ρ (Cross (Minus E· C D) (Minus E· B A)) k)) (Cross (Minus E· C D) (Minus E· A D)) (Cross (Minus E· C D) (Minus E· B D)) refl;
}
