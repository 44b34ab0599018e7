-- Laws of specs/Vector.antt.
use Rattle.std.specs.Prelude.{◌≡◌, refl, [], ◌∷◌, ◌≤◌, ℤ, nat_abs, ◌+ℤ◌, ◌-ℤ◌, ◌*ℤ◌}
use Rattle.std.proofs.Common.{sym, ◌∙◌, ap₂, subst}
use Rattle.algebra.specs.Ring.{var, ◌⊕◌, ◌⊖◌, ◌⊗◌}
use Rattle.algebra.proofs.RingLaws.{ring}
use Rattle.algebra.proofs.Bound.{Env, []ᵉ, ◌∷ᵉ◌, within}
use Rattle.math.specs.declared.Point.{Point}
use Rattle.math.specs.declared.Vector.{Vector}
use Rattle.math.specs.Determinant.{InRange, Dot, det2, Minus, Orient2d, Incircle, orient2d, incircle, factor, length2}
use Rattle.math.proofs.Plane.{E·, A, B, C, D, env, env3}
use Rattle.math.specs.Vector.{difference, dot_of, cross_of, Short}

pub difference-short : {p q : Point} → InRange p → InRange q → Short (difference p q)
unfolding difference
difference-short {p} {q} h k = record { x = sub-abs p.x q.x h.x k.x; y = sub-abs p.y q.y h.y k.y }
  where
    sub-abs : (a b : ℤ) → nat_abs a ≤ 16777216 → nat_abs b ≤ 16777216 → nat_abs (a -ℤ b) ≤ 33554432
    sub-abs a b h k = within {ρ = a ∷ b ∷ []} (h ∷ᵉ k ∷ᵉ []ᵉ) (var 0 ⊖ var 1)

pub short : {u : Vector} {p q : Point} → u ≡ difference p q → InRange p → InRange q → Short u
short e h k = subst Short (sym e) (difference-short h k)

module _ {u v : Vector} (h : Short u) (k : Short v) where
  shorts : Env (u.x ∷ u.y ∷ v.x ∷ v.y ∷ []) (33554432 ∷ 33554432 ∷ 33554432 ∷ 33554432 ∷ [])
  shorts = h.x ∷ᵉ h.y ∷ᵉ k.x ∷ᵉ k.y ∷ᵉ []ᵉ

  pub dot-small : nat_abs (dot_of u v) ≤ 2251799813685248
  unfolding dot_of
  dot-small = within shorts (var 0 ⊗ var 2 ⊕ var 1 ⊗ var 3)

  pub cross-small : nat_abs (cross_of u v) ≤ 2251799813685248
  unfolding cross_of
  cross-small = within shorts (var 0 ⊗ var 3 ⊖ var 1 ⊗ var 2)

-- ---- the determinants
pub orient2d-vectors : (a b c : Point) → cross_of (difference b a) (difference c a) ≡ orient2d a b c
unfolding cross_of difference orient2d
orient2d-vectors a b c =
    let u = Minus E· B A in let v = Minus E· C A in
    ring (env3 a b c) (det2 E· (u.x, u.y) (v.x, v.y)) (Orient2d E· A B C) refl

-- `incircle` by two products, where the determinant has three: the angles at c and at d over the edge a b
incircle-vectors : (a b c d : Point)
    → let u = difference a c in let v = difference b c in let s = difference a d in let t = difference b d in
    cross_of v u *ℤ dot_of s t +ℤ dot_of u v *ℤ cross_of s t ≡ incircle a b c d
unfolding cross_of dot_of difference incircle
incircle-vectors a b c d =
    let u = Minus E· A C in let v = Minus E· B C in let s = Minus E· A D in let t = Minus E· B D in
    ring (env a b c d) (det2 E· (v.x, v.y) (u.x, u.y) ⊗ Dot E· s t ⊕ Dot E· u v ⊗ det2 E· (s.x, s.y) (t.x, t.y)) (Incircle E· A B C D) refl

pub incircle-by : (a b c d : Point) {u v s t : Vector} → u ≡ difference a c → v ≡ difference b c
    → s ≡ difference a d → t ≡ difference b d
    → cross_of v u *ℤ dot_of s t +ℤ dot_of u v *ℤ cross_of s t ≡ incircle a b c d
incircle-by a b c d eu ev es et =
    ap₂ ◌+ℤ◌ (ap₂ ◌*ℤ◌ (ap₂ cross_of ev eu) (ap₂ dot_of es et)) (ap₂ ◌*ℤ◌ (ap₂ dot_of eu ev) (ap₂ cross_of es et)) ∙ incircle-vectors a b c d

pub factor-vectors : (p1 p2 q : Point) → dot_of (difference q p1) (difference p2 p1) ≡ factor p1 p2 q
unfolding dot_of difference factor
factor-vectors p1 p2 q = refl

pub length2-vectors : (p1 p2 : Point) → dot_of (difference p2 p1) (difference p2 p1) ≡ length2 p1 p2
unfolding dot_of difference length2
length2-vectors p1 p2 = refl
