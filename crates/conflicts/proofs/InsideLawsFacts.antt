-- Laws of specs/InsideLaws.antt.
use Rattle.std.proofs.Common.{subst, inl, inr, arith}
use Rattle.std.specs.Prelude.{Bool, true, false, ◌⊎◌, List, [], ◌∷◌, ◌+◌, ◌*◌, ◌-◌, ◌<◌, ◌≤◌, ℤ, pos, T, ◌<ℤ◌, ◌≤ℤ◌}
use Rattle.std.proofs.Math.Logic.{⊎_elim}
use Rattle.std.specs.Int.Signed.{lt_z_yes}
use Rattle.algebra.specs.Ring.{E, var, ⊝◌}
use Rattle.algebra.proofs.Sign.{Pos, NN, ◌*⁺◌, ◌*°◌, ◌+⁺◌, ◌+°◌, weak, sq, pos-in, nn-in, cases, refute}
use Rattle.math.specs.declared.Point.{Point}
use Rattle.math.specs.Determinant.{Pt, Lift, Minus, Orient2d, Incircle, orient2d, incircle, contained_in_circumference}
use Rattle.math.proofs.Plane.{E·, A, B, C, D, incircle-other}
use Rattle.sums.specs.Bit.{bit}
use Rattle.sums.proofs.BitLaws.{bit_le}
use Rattle.conflicts.specs.InsideLaws.{Quad}

-- ---- five points: the edge a b with c left and d right of it, and any q
abbrev Q : Pt E
Q = record { x = var 8; y = var 9 }

abbrev env5 : Point → Point → Point → Point → Point → List ℤ
env5 a b c d q = a.x ∷ a.y ∷ b.x ∷ b.y ∷ c.x ∷ c.y ∷ d.x ∷ d.y ∷ q.x ∷ q.y ∷ []

quad-other : {a b c d : Point} → Quad a b c d → Quad b a d c
quad-other {a} {b} {c} {d} K = record {
  abc = K.bad;
  bad = K.abc;
  cad = K.dbc;
  dbc = K.cad;
  det = subst (λ (z : ℤ). pos 0 ≤ℤ z) (incircle-other a b c d) K.det;
}

module _ (a b c d q : Point) (K : Quad a b c d) where
  abbrev ρ : List ℤ
  ρ = env5 a b c d q

  len : (s t : Pt E) → NN ρ (Lift E· (Minus E· s t))
  len s t = sq (Minus E· s t).x +° sq (Minus E· s t).y

  S : Pos ρ (Orient2d E· A B C)
  unfolding orient2d
  S = pos-in ρ (Orient2d E· A B C) K.abc

  R : Pos ρ (Orient2d E· B A D)
  unfolding orient2d
  R = pos-in ρ (Orient2d E· B A D) K.bad

  X : Pos ρ (Orient2d E· C A D)
  unfolding orient2d
  X = pos-in ρ (Orient2d E· C A D) K.cad

  Y : Pos ρ (Orient2d E· D B C)
  unfolding orient2d
  Y = pos-in ρ (Orient2d E· D B C) K.dbc

  Δ : NN ρ (Incircle E· A B C D)
  unfolding incircle
  Δ = nn-in ρ (Incircle E· A B C D) K.det

  -- inside the circle of c a d and not inside that of a b c: not left of c a
  past-ca : Pos ρ (Incircle E· C A D Q) → NN ρ (⊝ Incircle E· A B C Q) → NN ρ (⊝ Orient2d E· C A Q)
  past-ca i n = ⊎_elim (λ k. absurd (refute (S *⁺ i +⁺ Δ *° weak k +⁺ weak X *° n) tt)) (λ k. k) (cases ρ (Orient2d E· C A Q))

  past-ad : Pos ρ (Incircle E· C A D Q) → NN ρ (⊝ Incircle E· B A D Q) → NN ρ (⊝ Orient2d E· A D Q)
  past-ad i n = ⊎_elim (λ k. absurd (refute (R *⁺ i +⁺ Δ *° weak k +⁺ weak X *° n) tt)) (λ k. k) (cases ρ (Orient2d E· A D Q))

  past-bc : Pos ρ (Incircle E· D B C Q) → NN ρ (⊝ Incircle E· A B C Q) → NN ρ (⊝ Orient2d E· B C Q)
  past-bc i n = ⊎_elim (λ k. absurd (refute (S *⁺ i +⁺ Δ *° weak k +⁺ weak Y *° n) tt)) (λ k. k) (cases ρ (Orient2d E· B C Q))

  -- past both sides at a, where no point of the circle is
  not-past-a : Pos ρ (Incircle E· C A D Q) → NN ρ (⊝ Orient2d E· C A Q) → NN ρ (⊝ Orient2d E· A D Q) → ⊥
  not-past-a i m n = refute (i +⁺ n *° len C A +⁺ m *° len D A +⁺ weak X *° len Q A) tt

  -- inside the circle of a new triangle: inside that of an old one
  one_inside : pos 0 <ℤ incircle c a d q → (pos 0 <ℤ incircle a b c q) ⊎ (pos 0 <ℤ incircle b a d q)
  unfolding incircle
  one_inside h = go (cases ρ (Incircle E· A B C Q)) (cases ρ (Incircle E· B A D Q))
    where
      i : Pos ρ (Incircle E· C A D Q)
      i = pos-in ρ (Incircle E· C A D Q) h

      go : Pos ρ (Incircle E· A B C Q) ⊎ NN ρ (⊝ Incircle E· A B C Q) → Pos ρ (Incircle E· B A D Q) ⊎ NN ρ (⊝ Incircle E· B A D Q)
          → (pos 0 <ℤ incircle a b c q) ⊎ (pos 0 <ℤ incircle b a d q)
      go (inl k) m = inl k.is
      go (inr k) (inl m) = inr m.is
      go (inr k) (inr m) = absurd (not-past-a i (past-ca i k) (past-ad i m))

  -- inside both new ones: inside both old ones, here the first
  both-inside : pos 0 <ℤ incircle c a d q → pos 0 <ℤ incircle d b c q → pos 0 <ℤ incircle a b c q
  unfolding incircle
  both-inside h k = ⊎_elim (λ n. n.is) (λ n. absurd (no n (cases ρ (Orient2d E· D C Q)))) (cases ρ (Incircle E· A B C Q))
    where
      i : Pos ρ (Incircle E· C A D Q)
      i = pos-in ρ (Incircle E· C A D Q) h

      j : Pos ρ (Incircle E· D B C Q)
      j = pos-in ρ (Incircle E· D B C Q) k

      no : NN ρ (⊝ Incircle E· A B C Q) → Pos ρ (Orient2d E· D C Q) ⊎ NN ρ (⊝ Orient2d E· D C Q) → ⊥
      no n (inl z) = refute (j +⁺ weak z *° len B C +⁺ past-bc j n *° len D C +⁺ weak Y *° len Q C) tt
      no n (inr z) = refute (i +⁺ past-ca i n *° len D C +⁺ z *° len A C +⁺ weak X *° len Q C) tt

-- ---- as numbers
abbrev pub inside : Point → Point → Point → Point → Bool
inside a b c q = contained_in_circumference a b c q

bits : (w x y z : Bool) → (T y → T w ⊎ T x) → (T z → T x ⊎ T w) → (T y → T z → T w) → (T z → T y → T x)
    → bit y + bit z ≤ bit w + bit x
bits true true y z f g h k = let l = bit_le y in let m = bit_le z in omega arith
bits true false true true f g h k = absurd (k tt tt)
bits true false true false f g h k = omega arith
bits true false false z f g h k = let m = bit_le z in omega arith
bits false true true true f g h k = absurd (h tt tt)
bits false true true false f g h k = omega arith
bits false true false z f g h k = let m = bit_le z in omega arith
bits false false true z f g h k = absurd (⊎_elim (λ t. t) (λ t. t) (f tt))
bits false false false true f g h k = absurd (⊎_elim (λ t. t) (λ t. t) (g tt))
bits false false false false f g h k = omega arith

-- NO POINT IS INSIDE MORE CIRCLES THAN BEFORE
pub fewer-inside : (a b c d q : Point) → Quad a b c d
    → bit (inside c a d q) + bit (inside d b c q) ≤ bit (inside a b c q) + bit (inside b a d q)
fewer-inside a b c d q K = bits (inside a b c q) (inside b a d q) (inside c a d q) (inside d b c q)
    (λ t. ⊎_elim (λ h. inl h.lt) (λ h. inr h.lt) (one_inside a b c d q K (lt_z_yes t)))
    (λ t. ⊎_elim (λ h. inl h.lt) (λ h. inr h.lt) (one_inside b a d c q (quad-other K) (lt_z_yes t)))
    (λ s t. (both-inside a b c d q K (lt_z_yes s) (lt_z_yes t)).lt)
    (λ s t. (both-inside b a d c q (quad-other K) (lt_z_yes s) (lt_z_yes t)).lt)
