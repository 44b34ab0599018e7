-- A left-turning triangle whose crossings total more than 0 holds the point; an edge that the point is not strictly
-- left of crosses at most 0. Assumes nothing.
use Rattle.std.specs.Prelude.{◌≡◌, Bool, true, false, not, ◌&&◌, T, ℤ, pos, negsuc, neg_ℤ, ◌+ℤ◌, ◌-ℤ◌, ◌<ℤ◌, ◌≤ℤ◌}
use Rattle.std.proofs.Math.Path.{refl}
use Rattle.std.proofs.Common.{sym, ◌∙◌, subst}
use Rattle.std.proofs.Math.Logic.{⊎_elim}
use Rattle.std.specs.Int.Signed.{lt_z, lt_z_yes, le_z_yes, lt_z_no}
use Rattle.algebra.proofs.Order.{lt-le}
use Rattle.algebra.specs.Ring.{⊝◌}
use Rattle.algebra.proofs.RingLaws.{#◌}
use Rattle.algebra.proofs.Sign.{◌*⁺◌, ◌*°◌, ◌+⁺◌, weak, pos-in, lt_in, le_in, cases, le-by, nn-by, refute}
use Rattle.sums.specs.Bit.{bit}
use Rattle.sums.proofs.BitLaws.{from-true, from_false, is_true, is_false}
use Rattle.math.specs.declared.Point.{Point}
use Rattle.math.specs.Determinant.{Orient2d, orient2d}
use Rattle.math.proofs.Plane.{E·, A, B, C, D, env, orient2d-next}
use Rattle.covering.specs.Crossing.{under, crossing, crossings}
use Rattle.covering.specs.CrossingLaws.{crossings-next, crossing-level, crossing-up, crossing-down, under-yes, under-no}
use Rattle.covering.specs.Holds.{Holds}

-- ---- one edge
pub crossing_most : (q a b : Point) → (pos 0 <ℤ orient2d a b q → ⊥) → crossing q a b ≤ℤ pos 0
unfolding crossing
crossing_most q a b n = go (under q a) (under q b) (lt_z (pos 0) (orient2d a b q)) (lt_z (pos 0) (orient2d b a q)) (λ t. n (lt_z_yes t))
  where
    go : (s t x y : Bool) → (T x → ⊥) → (pos (bit (s && (not t && x))) -ℤ pos (bit (t && (not s && y)))) ≤ℤ pos 0
    go s t true y m = absurd (m tt)
    go true true false y m = le_z_yes tt
    go true false false y m = le_z_yes tt
    go false true false true m = le_z_yes tt
    go false true false false m = le_z_yes tt
    go false false false y m = le_z_yes tt

pub crossing-falls : (q a b : Point) → q.y ≤ℤ a.y → b.y <ℤ q.y → pos 0 <ℤ orient2d b a q → crossing q a b ≡ negsuc 0
crossing-falls q a b ha hb h =
    crossing-down q a b (is_false (under q a) (λ t. let ρ = env a q q q in refute (lt_in ρ A.y B.y (lt_z_yes t) +⁺ le_in ρ B.y A.y ha) tt)) (is_true (under q b) hb.lt)
    ∙ go (lt_z (pos 0) (orient2d b a q)) h.lt
  where
    go : (x : Bool) → T x → neg_ℤ (pos (bit x)) ≡ negsuc 0
    go true t = refl
    go false t = absurd t

-- ---- a triangle
module _ (q a b c : Point) (left : pos 0 <ℤ orient2d a b c) where
  -- where q is left of a b and not left of a c, and the three corners are not on one side of its height
  back : (x y : Point) → orient2d x y q ≤ℤ pos 0 → pos 0 ≤ℤ orient2d y x q
  unfolding orient2d
  back x y h = let ρ = env x y q q in le-by (le_in ρ (Orient2d E· A B C) (# 0) h) (# 0) (Orient2d E· B A C) refl

  one_holds : a.y <ℤ q.y → q.y ≤ℤ b.y → q.y ≤ℤ c.y → pos 0 <ℤ orient2d a b q → orient2d a c q ≤ℤ pos 0 → pos 0 ≤ℤ orient2d b c q
  unfolding orient2d
  one_holds ha hb hc x y =
      let ρ = env a b c q in
      ⊎_elim (λ n. absurd (refute (n *⁺ lt_in ρ A.y D.y ha +⁺ le_in ρ (Orient2d E· A C D) (# 0) y *° le_in ρ D.y B.y hb
      +⁺ weak (pos-in ρ (Orient2d E· A B D) x) *° le_in ρ D.y C.y hc) tt))
      (λ n. (nn-by n (Orient2d E· B C D) refl).is)
      (cases ρ (⊝ Orient2d E· B C D))

  two-holds : a.y <ℤ q.y → b.y <ℤ q.y → q.y ≤ℤ c.y → pos 0 <ℤ orient2d b c q → orient2d a c q ≤ℤ pos 0 → pos 0 ≤ℤ orient2d a b q
  unfolding orient2d
  two-holds ha hb hc x y =
      let ρ = env a b c q in
      ⊎_elim (λ n. absurd (refute (pos-in ρ (Orient2d E· B C D) x *⁺ lt_in ρ A.y D.y ha +⁺ le_in ρ (Orient2d E· A C D) (# 0) y *° weak (lt_in ρ B.y D.y hb)
      +⁺ weak n *° le_in ρ D.y C.y hc) tt))
      (λ n. (nn-by n (Orient2d E· A B D) refl).is)
      (cases ρ (⊝ Orient2d E· A B D))

  one-crossed : under q a ≡ true → under q b ≡ false → under q c ≡ false → pos 0 <ℤ crossings q a b c → Holds q a b c
  one-crossed ua ub uc h =
      bits (lt_z (pos 0) (orient2d a b q)) (lt_z (pos 0) (orient2d a c q)) refl refl
      (rw (crossing-up q a b ua ub, crossing-level q b c (ub ∙ sym uc), crossing-down q c a uc ua) at h)
    where
      bits : (x y : Bool) → lt_z (pos 0) (orient2d a b q) ≡ x → lt_z (pos 0) (orient2d a c q) ≡ y
          → pos 0 <ℤ (pos (bit x) +ℤ pos 0 +ℤ neg_ℤ (pos (bit y))) → Holds q a b c
      bits true false e f k =
          let x : pos 0 <ℤ orient2d a b q = lt_z_yes (from-true e) in let y : orient2d a c q ≤ℤ pos 0 = lt_z_no (from_false f) in
          record { ab = lt-le x; bc = one_holds (under-yes q a ua) (under-no q b ub) (under-no q c uc) x y; ca = back a c y }
      bits true true e f k = absurd k.lt
      bits false true e f k = absurd k.lt
      bits false false e f k = absurd k.lt

  two-crossed : under q a ≡ true → under q b ≡ true → under q c ≡ false → pos 0 <ℤ crossings q a b c → Holds q a b c
  two-crossed ua ub uc h =
      bits (lt_z (pos 0) (orient2d b c q)) (lt_z (pos 0) (orient2d a c q)) refl refl
      (rw (crossing-level q a b (ua ∙ sym ub), crossing-up q b c ub uc, crossing-down q c a uc ua) at h)
    where
      bits : (x y : Bool) → lt_z (pos 0) (orient2d b c q) ≡ x → lt_z (pos 0) (orient2d a c q) ≡ y
          → pos 0 <ℤ (pos 0 +ℤ pos (bit x) +ℤ neg_ℤ (pos (bit y))) → Holds q a b c
      bits true false e f k =
          let x : pos 0 <ℤ orient2d b c q = lt_z_yes (from-true e) in let y : orient2d a c q ≤ℤ pos 0 = lt_z_no (from_false f) in
          record { ab = two-holds (under-yes q a ua) (under-yes q b ub) (under-no q c uc) x y; bc = lt-le x; ca = back a c y }
      bits true true e f k = absurd k.lt
      bits false true e f k = absurd k.lt
      bits false false e f k = absurd k.lt

  level-crossed : {u : Bool} → under q a ≡ u → under q b ≡ u → under q c ≡ u → pos 0 <ℤ crossings q a b c → ⊥
  level-crossed ua ub uc h =
      let k : pos 0 <ℤ (pos 0 +ℤ pos 0 +ℤ pos 0) = rw (crossing-level q a b (ua ∙ sym ub), crossing-level q b c (ub ∙ sym uc), crossing-level q c a (uc ∙ sym ua)) at h in
      k.lt

-- CROSSED MORE THAN 0: held
pub crossed-holds : (q a b c : Point) → pos 0 <ℤ orient2d a b c → pos 0 <ℤ crossings q a b c → Holds q a b c
crossed-holds q a b c l h = go (under q a) (under q b) (under q c) refl refl refl
  where
    l₁ : pos 0 <ℤ orient2d b c a
    l₁ = rw orient2d-next at l

    l₂ : pos 0 <ℤ orient2d c a b
    l₂ = rw orient2d-next at l₁

    h₁ : pos 0 <ℤ crossings q b c a
    h₁ = subst (λ (z : ℤ). pos 0 <ℤ z) (crossings-next q a b c) h

    h₂ : pos 0 <ℤ crossings q c a b
    h₂ = subst (λ (z : ℤ). pos 0 <ℤ z) (crossings-next q b c a) h₁

    turned : Holds q b c a → Holds q a b c
    turned H = record { ab = H.ca; bc = H.ab; ca = H.bc }

    turned₂ : Holds q c a b → Holds q a b c
    turned₂ H = record { ab = H.bc; bc = H.ca; ca = H.ab }

    go : (u v w : Bool) → under q a ≡ u → under q b ≡ v → under q c ≡ w → Holds q a b c
    go true true true ua ub uc = absurd (level-crossed q a b c l ua ub uc h)
    go false false false ua ub uc = absurd (level-crossed q a b c l ua ub uc h)
    go true false false ua ub uc = one-crossed q a b c l ua ub uc h
    go false true false ua ub uc = turned (one-crossed q b c a l₁ ub uc ua h₁)
    go false false true ua ub uc = turned₂ (one-crossed q c a b l₂ uc ua ub h₂)
    go true true false ua ub uc = two-crossed q a b c l ua ub uc h
    go false true true ua ub uc = turned (two-crossed q b c a l₁ ub uc ua h₁)
    go true false true ua ub uc = turned₂ (two-crossed q c a b l₂ uc ua ub h₂)
