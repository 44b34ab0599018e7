-- Laws of the plane: how `orient2d`, `incircle` and `height` behave under a change of order and under a flip.
-- Polynomial identities, by the ring solver, and signs by certificates.
-- Assumes nothing.
use Rattle.std.specs.Prelude.{◌≡◌, false, zero, suc, T, pos, negsuc, neg_ℤ, ◌+ℤ◌, ◌-ℤ◌, ◌*ℤ◌, ◌<ℤ◌, ◌≤ℤ◌}
use Rattle.std.proofs.Math.Path.{refl}
use Rattle.std.proofs.Common.{sym, ◌∙◌, ap, subst, zero-le, suc-le-suc, lt-ltb, le-ltb}
use mathlib.Core.List.{List, [], ◌∷◌}
use Rattle.std.proofs.Math.Logic.{⊎_elim}
use Rattle.std.proofs.Math.IntN.{ℤ}
use Rattle.std.specs.Int.Signed.{lt_z, le_z, <ℤ_irrefl}
use Rattle.algebra.specs.Ring.{E, var, num, ◌⊕◌, ◌⊖◌, ◌⊗◌, ⊝◌}
use Rattle.algebra.proofs.RingLaws.{ring}
use Rattle.algebra.proofs.Sign.{Pos, NN, ◌*⁺◌, ◌*°◌, ◌+⁺◌, ◌+°◌, weak, sq, pos-in, nn-in, lt_by, cases, refute, eq-in, zero°}
use Rattle.math.specs.declared.Point.{Point}
use Rattle.math.specs.Determinant.{Ops, Pt, det2, det3, Lift, Dot, Orient2d, Incircle, Height, Minus, ℤ·, pt, orient2d, incircle, height, is_ordered_ccw, contained_in_circumference}

-- ---- four points as the solver has them: `ring (env a b c d) e₁ e₂ refl` proves an identity of a, b, c and d, which
-- are A, B, C and D in e₁ and e₂
abbrev pub E· : Ops E
E· = record { ◌⊞◌ = ◌⊕◌; ◌⊟◌ = ◌⊖◌; ◌⊠◌ = ◌⊗◌; one = num (pos 1) }

abbrev pub A : Pt E
A = record { x = var 0; y = var 1 }

abbrev pub B : Pt E
B = record { x = var 2; y = var 3 }

abbrev pub C : Pt E
C = record { x = var 4; y = var 5 }

abbrev pub D : Pt E
D = record { x = var 6; y = var 7 }

abbrev pub env : Point → Point → Point → Point → List ℤ
env a b c d = a.x ∷ a.y ∷ b.x ∷ b.y ∷ c.x ∷ c.y ∷ d.x ∷ d.y ∷ []

abbrev pub env3 : Point → Point → Point → List ℤ
env3 a b c = a.x ∷ a.y ∷ b.x ∷ b.y ∷ c.x ∷ c.y ∷ []

-- ---- the reduced forms
module _ (a b c : Point) where
  -- the 2x2 determinant of the differences from c, as in Shewchuk's paper
  pub orient2d-reduced : orient2d a b c ≡ det2 ℤ· (a.x -ℤ c.x, a.y -ℤ c.y) (b.x -ℤ c.x, b.y -ℤ c.y)
  unfolding orient2d
  orient2d-reduced =
      let u = Minus E· A C in let v = Minus E· B C in
      ring (env3 a b c) (Orient2d E· A B C) (det2 E· (u.x, u.y) (v.x, v.y)) refl

  -- and of those from a, as in `side_query_inaccurate` of math.rs
  pub orient2d-from : orient2d a b c ≡ det2 ℤ· (b.x -ℤ a.x, b.y -ℤ a.y) (c.x -ℤ a.x, c.y -ℤ a.y)
  unfolding orient2d
  orient2d-from =
      let u = Minus E· B A in let v = Minus E· C A in
      ring (env3 a b c) (Orient2d E· A B C) (det2 E· (u.x, u.y) (v.x, v.y)) refl

  -- ---- symmetries of `orient2d`
  pub orient2d-next : orient2d a b c ≡ orient2d b c a
  unfolding orient2d
  orient2d-next = ring (env3 a b c) (Orient2d E· A B C) (Orient2d E· B C A) refl

  pub orient2d-swap : orient2d b a c ≡ neg_ℤ (orient2d a b c)
  unfolding orient2d
  orient2d-swap = ring (env3 a b c) (Orient2d E· B A C) (⊝ Orient2d E· A B C) refl

  -- the area by the cross products of its corners, which cancel at an edge that two triangles share
  pub orient2d-cross : orient2d a b c ≡ (a.x *ℤ b.y -ℤ a.y *ℤ b.x) +ℤ (b.x *ℤ c.y -ℤ b.y *ℤ c.x) +ℤ (c.x *ℤ a.y -ℤ c.y *ℤ a.x)
  unfolding orient2d
  orient2d-cross =
      ring (env3 a b c) (Orient2d E· A B C) ((A.x ⊗ B.y ⊖ A.y ⊗ B.x) ⊕ (B.x ⊗ C.y ⊖ B.y ⊗ C.x) ⊕ (C.x ⊗ A.y ⊖ C.y ⊗ A.x)) refl

  pub height-next : height a b c ≡ height b c a
  unfolding height
  height-next = ring (env3 a b c) (Height E· A B C) (Height E· B C A) refl

  pub height-swap : height b a c ≡ neg_ℤ (height a b c)
  unfolding height
  height-swap = ring (env3 a b c) (Height E· B A C) (⊝ Height E· A B C) refl

-- two equal corners make no area
pub orient2d-aab : (a b : Point) → orient2d a a b ≡ pos 0
unfolding orient2d
orient2d-aab a b = ring (a.x ∷ a.y ∷ b.x ∷ b.y ∷ []) (Orient2d E· A A B) (num (pos 0)) refl

pub orient2d-aba : (a b : Point) → orient2d a b a ≡ pos 0
unfolding orient2d
orient2d-aba a b = ring (a.x ∷ a.y ∷ b.x ∷ b.y ∷ []) (Orient2d E· A B A) (num (pos 0)) refl

pub orient2d-abb : (a b : Point) → orient2d a b b ≡ pos 0
unfolding orient2d
orient2d-abb a b = ring (a.x ∷ a.y ∷ b.x ∷ b.y ∷ []) (Orient2d E· A B B) (num (pos 0)) refl

module _ (a b c d : Point) where
  -- the 3x3 determinant of the differences from d, as in Shewchuk's paper
  pub incircle-reduced : let u = Minus ℤ· (pt a) (pt d) in let v = Minus ℤ· (pt b) (pt d) in
      let w = Minus ℤ· (pt c) (pt d) in incircle a b c d
      ≡ det3 ℤ· (u.x, u.y, Lift ℤ· u) (v.x, v.y, Lift ℤ· v) (w.x, w.y, Lift ℤ· w)
  unfolding incircle
  incircle-reduced =
      let u = Minus E· A D in let v = Minus E· B D in let w = Minus E· C D in
      ring (env a b c d) (Incircle E· A B C D) (det3 E· (u.x, u.y, Lift E· u) (v.x, v.y, Lift E· v) (w.x, w.y, Lift E· w)) refl

  -- ---- symmetries of `incircle`
  pub incircle-next : incircle a b c d ≡ incircle b c a d
  unfolding incircle
  incircle-next = ring (env a b c d) (Incircle E· A B C D) (Incircle E· B C A D) refl

  pub incircle-swap : incircle b a c d ≡ neg_ℤ (incircle a b c d)
  unfolding incircle
  incircle-swap = ring (env a b c d) (Incircle E· B A C D) (⊝ Incircle E· A B C D) refl

  -- a b c read backwards: `contained_in_circumference` of math.rs tests `incircle(v3, v2, v1, p) < 0`
  pub incircle-reversed : incircle c b a d ≡ neg_ℤ (incircle a b c d)
  unfolding incircle
  incircle-reversed = ring (env a b c d) (Incircle E· C B A D) (⊝ Incircle E· A B C D) refl

  -- the circle test seen from the other side of the edge a b
  pub incircle-other : incircle a b c d ≡ incircle b a d c
  unfolding incircle
  incircle-other = ring (env a b c d) (Incircle E· A B C D) (Incircle E· B A D C) refl

  -- ---- a flip of the edge a b, between the triangles a b c and b a d, to the edge c d, between c a d and d b c
  pub flip-area : orient2d a b c +ℤ orient2d b a d ≡ orient2d c a d +ℤ orient2d d b c
  unfolding orient2d
  flip-area = ring (env a b c d) (Orient2d E· A B C ⊕ Orient2d E· B A D) (Orient2d E· C A D ⊕ Orient2d E· D B C) refl

  -- 01: "Each flip lowers the height sum by exactly the circle determinant."
  pub flip-height : height a b c +ℤ height b a d ≡ height c a d +ℤ height d b c +ℤ incircle a b c d
  unfolding height incircle
  flip-height = ring (env a b c d) (Height E· A B C ⊕ Height E· B A D) (Height E· C A D ⊕ Height E· D B C ⊕ Incircle E· A B C D) refl

  -- The flipped triangles turn left, where c lies left of a b, d right of it, and d not outside the circle of a, b and c: the first.
  -- [p q] is the cross product of p - d and q - d, and S the area of a b c. Were [c a] ≤ 0, then [b c] = S - [a b] - [c a] > 0, and
  -- [b c] * det + (-[c a]) * (-[a b]) * |b - c|² + S * ((-[c a]) * |b - d|² + (-[a b]) * |c - d|²) = 0, where all summands are
  -- at least 0 and the last is positive: c is not d, since |b - a|² |c - d|² is at least the square of S - [a b]
  pub flip-left : pos 0 <ℤ orient2d a b c → pos 0 <ℤ orient2d b a d → pos 0 ≤ℤ incircle a b c d → pos 0 <ℤ orient2d c a d
  unfolding orient2d incircle
  flip-left hS hab hD = ⊎_elim (λ k. k.is) (λ k. absurd (no k)) (cases ρ (Orient2d E· C A D))
    where
      ρ : List ℤ
      ρ = env a b c d

      S : Pos ρ (Orient2d E· A B C)
      S = pos-in ρ (Orient2d E· A B C) hS

      -ab : Pos ρ (Orient2d E· B A D)
      -ab = pos-in ρ (Orient2d E· B A D) hab

      len : (p q : Pt E) → NN ρ (Lift E· (Minus E· p q))
      len p q = sq (Minus E· p q).x +° sq (Minus E· p q).y

      apart : Pos ρ (Lift E· (Minus E· C D))
      apart = ⊎_elim (λ k. k)
          (λ k. absurd (refute ((S +⁺ weak -ab) *⁺ (S +⁺ weak -ab) +⁺ sq (Dot E· (Minus E· B A) (Minus E· C D)) +⁺ len B A *° k) tt))
          (cases ρ (Lift E· (Minus E· C D)))

      no : NN ρ (⊝ Orient2d E· C A D) → ⊥
      no -ca = refute (S *⁺ (-ab *⁺ apart)
          +⁺ ((weak (S +⁺ weak -ab +⁺ -ca)) *° nn-in ρ (Incircle E· A B C D) hD +° -ca *° weak -ab *° len B C +° weak S *° (-ca *° len B D))) tt

-- the second: the first at b, a, d and c
pub flip-right : (a b c d : Point) → pos 0 <ℤ orient2d a b c → pos 0 <ℤ orient2d b a d → pos 0 ≤ℤ incircle a b c d
    → pos 0 <ℤ orient2d d b c
flip-right a b c d hS hab hD = flip-left b a d c hab hS (subst (λ (z : ℤ). pos 0 ≤ℤ z) (incircle-other a b c d) hD)

-- ---- the tests of math.rs
neg-test : (z : ℤ) → lt_z (neg_ℤ z) (pos 0) ≡ lt_z (pos 0) z
neg-test (pos zero) = refl
neg-test (pos (suc n)) = sym (lt-ltb 0 (suc n) (suc-le-suc zero-le))
neg-test (negsuc n) = le-ltb (suc n) 0 zero-le

-- math.rs: "incircle expects all vertices to be ordered CW for right-handed systems. For consistency, the public
-- interface of this method will expect the points to be ordered ccw." Its test is `incircle(v3, v2, v1, p) < 0`
pub contained-reversed : (v1 v2 v3 p : Point) → contained_in_circumference v1 v2 v3 p ≡ lt_z (incircle v3 v2 v1 p) (pos 0)
contained-reversed v1 v2 v3 p = sym (ap (λ (z : ℤ). lt_z z (pos 0)) (incircle-reversed v1 v2 v3 p) ∙ neg-test (incircle v1 v2 v3 p))

-- an edge is tested alike from both its sides
pub contained-other : (a b c d : Point) → contained_in_circumference a b c d ≡ contained_in_circumference b a d c
contained-other a b c d = ap (lt_z (pos 0)) (incircle-other a b c d)

-- the three corners may be given from any of them on
pub contained-next : (a b c d : Point) → contained_in_circumference a b c d ≡ contained_in_circumference b c a d
contained-next a b c d = ap (lt_z (pos 0)) (incircle-next a b c d)

-- The hull cases of `legalize_edges_after_removal` of triangulation_ext.rs, `is_ordered_ccw(right, from, to)` and
-- `is_ordered_ccw(left, to, from)`, ask whether the one triangle at the edge turns right or not at all:
-- with the triangle (to, from, right), or (from, to, left), as a b c, both are `is_ordered_ccw(c, b, a)`, which does
-- not hold where that triangle turns left
pub hull-legal : (a b c : Point) → pos 0 <ℤ orient2d a b c → is_ordered_ccw c b a ≡ false
hull-legal a b c h = ap (le_z (pos 0)) (orient2d-next c b a ∙ orient2d-swap a b c) ∙ below (orient2d a b c) h.lt
  where
    below : (z : ℤ) → T (lt_z (pos 0) z) → le_z (pos 0) (neg_ℤ z) ≡ false
    below (pos zero) t = absurd t
    below (pos (suc n)) t = refl
    below (negsuc n) t = absurd t

-- three that turn left have no two equal corners
pub turns-left-ab : (a b c : Point) → pos 0 <ℤ orient2d a b c → a ≡ b → ⊥
turns-left-ab a b c h e = <ℤ_irrefl (subst (λ (z : ℤ). pos 0 <ℤ z) (ap (λ (p : Point). orient2d a p c) (sym e) ∙ orient2d-aab a c) h)

pub turns-left-bc : (a b c : Point) → pos 0 <ℤ orient2d a b c → b ≡ c → ⊥
turns-left-bc a b c h = turns-left-ab b c a (subst (λ (z : ℤ). pos 0 <ℤ z) (orient2d-next a b c) h)

pub turns-left-ca : (a b c : Point) → pos 0 <ℤ orient2d a b c → c ≡ a → ⊥
turns-left-ca a b c h = turns-left-bc b c a (subst (λ (z : ℤ). pos 0 <ℤ z) (orient2d-next a b c) h)

-- the height of a triangle that turns left is at least 0, so that a height sum can serve as a measure
pub height-not-negative : (a b c : Point) → pos 0 <ℤ orient2d a b c → pos 0 ≤ℤ height a b c
unfolding orient2d height
height-not-negative a b c h =
    let ρ = env3 a b c in
    (weak (pos-in ρ (Orient2d E· A B C) h) *° (len A +° len B +° len C)).is
  where
    len : {ρ : List ℤ} (p : Pt E) → NN ρ (Lift E· p)
    len p = sq p.x +° sq p.y

-- a flip lowers the height sum where the circle test holds
pub flip-falls : (a b c d : Point) → pos 0 <ℤ incircle a b c d → (height c a d +ℤ height d b c) <ℤ (height a b c +ℤ height b a d)
flip-falls a b c d h =
    let ρ = height a b c ∷ height b a d ∷ height c a d ∷ height d b c ∷ incircle a b c d ∷ [] in
    lt_by (pos-in ρ (var 4) h +⁺ zero° (eq-in ρ (var 0 ⊕ var 1) (var 2 ⊕ var 3 ⊕ var 4) (flip-height a b c d))) (var 2 ⊕ var 3) (var 0 ⊕ var 1) refl
