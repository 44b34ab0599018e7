-- The crossings of a left-turning triangle total 1 where the point is strictly inside. Assumes nothing.
use Rattle.std.specs.Prelude.{◌≡◌, refl, ◌⊎◌, [], ◌∷◌, Bool, true, false, not, ◌&&◌, T, ℤ, pos, neg_ℤ, ◌+ℤ◌, ◌<ℤ◌, ◌≤ℤ◌}
use Rattle.std.proofs.Common.{sym, ◌∙◌, ap, subst}
use Rattle.std.proofs.Math.Logic.{⊎_elim}
use Rattle.std.specs.Int.Signed.{lt_z, lt_z_yes}
use Rattle.algebra.proofs.Order.{lt-le, le_antisymm}
use Rattle.algebra.specs.Ring.{◌⊖◌, ⊝◌}
use Rattle.algebra.proofs.RingLaws.{v0}
use Rattle.algebra.proofs.Sign.{◌*⁺◌, ◌*°◌, ◌+⁺◌, less1, pos-in, nn-in, lt_in, le_in, cases, refute, le-by, eq-in, ◌*⁰◌, ◌+⁰◌, zero°}
use Rattle.sums.specs.Bit.{bit}
use Rattle.sums.proofs.BitLaws.{is_true, is_false}
use Rattle.math.specs.declared.Point.{Point}
use Rattle.math.specs.Determinant.{Orient2d, orient2d}
use Rattle.math.proofs.Plane.{E·, A, B, C, D, env, orient2d-next, orient2d-swap}
use Rattle.covering.specs.Crossing.{under, crossing, crossings}
use Rattle.insertion.specs.Plane.{Inside}
use Rattle.covering.specs.CrossingLaws.{crossing-level, crossing-up, crossing-down}
use Rattle.covering.specs.CrossingLaws.{under-yes, under-no}

next_of : {q a b c : Point} → Inside a b c q → Inside b c a q
next_of I = record { ab = I.bc; bc = I.ca; ca = I.ab }

not_right : (q a b : Point) → pos 0 <ℤ orient2d a b q → T (lt_z (pos 0) (orient2d b a q)) → ⊥
not_right q a b h t =
    let ρ = orient2d a b q ∷ [] in
    refute (pos-in ρ (⊝ v0) (subst (λ (z : ℤ). pos 0 <ℤ z) (orient2d-swap a b q) (lt_z_yes t)) +⁺ nn-in ρ v0 (lt-le h)) tt

-- an edge that q is left of crosses just where it rises past q's height
crossing-left : (q a b : Point) → pos 0 <ℤ orient2d a b q → crossing q a b ≡ pos (bit (under q a && not (under q b)))
crossing-left q a b h = go (under q a) (under q b) refl refl
  where
    go : (u v : Bool) → under q a ≡ u → under q b ≡ v → crossing q a b ≡ pos (bit (u && not v))
    go true true ua ub = crossing-level q a b (ua ∙ sym ub)
    go false false ua ub = crossing-level q a b (ua ∙ sym ub)
    go true false ua ub = crossing-up q a b ua ub ∙ ap (λ (t : Bool). pos (bit t)) (is_true (lt_z (pos 0) (orient2d a b q)) h.lt)
    go false true ua ub = crossing-down q a b ua ub ∙ ap (λ (t : Bool). neg_ℤ (pos (bit t))) (is_false (lt_z (pos 0) (orient2d b a q)) (not_right q a b h))

-- ---- q is not higher than all three corners
not-above : (q a b c : Point) → pos 0 <ℤ orient2d a b c → Inside a b c q → a.y <ℤ q.y → b.y <ℤ q.y → c.y <ℤ q.y → ⊥
unfolding orient2d
not-above q a b c left I ha hb hc =
    let ρ = env a b c q in
    refute (pos-in ρ (Orient2d E· A B C) left
    +⁺ nn-in ρ (Orient2d E· B C D) (lt-le I.bc) *° less1 (lt_in ρ A.y D.y ha)
    +⁺ nn-in ρ (Orient2d E· C A D) (lt-le I.ca) *° less1 (lt_in ρ B.y D.y hb)
    +⁺ nn-in ρ (Orient2d E· A B D) (lt-le I.ab) *° less1 (lt_in ρ C.y D.y hc)) tt

-- ---- nor as low as the lowest
module _ (q a b c : Point) (left : pos 0 <ℤ orient2d a b c) (I : Inside a b c q) (ha : q.y ≤ℤ a.y) (hb : q.y ≤ℤ b.y)
    (hc : q.y ≤ℤ c.y) where
  -- so a corner is at q's height
  corner-low : a.y ≤ℤ q.y
  unfolding orient2d
  corner-low =
      let ρ = env a b c q in
      ⊎_elim (λ k. absurd (refute (pos-in ρ (Orient2d E· B C D) I.bc *⁺ k
      +⁺ nn-in ρ (Orient2d E· C A D) (lt-le I.ca) *° le_in ρ D.y B.y hb
      +⁺ nn-in ρ (Orient2d E· A B D) (lt-le I.ab) *° le_in ρ D.y C.y hc) tt))
      (λ n. le-by n A.y D.y refl)
      (cases ρ (A.y ⊖ D.y))

-- all three at q's height make no triangle
flat : (q a b c : Point) → pos 0 <ℤ orient2d a b c → a.y ≡ q.y → b.y ≡ q.y → c.y ≡ q.y → ⊥
unfolding orient2d
flat q a b c left ea eb ec =
    let ρ = env a b c q in
    refute (pos-in ρ (Orient2d E· A B C) left
    +⁺ zero° ((B.x ⊖ C.x) *⁰ eq-in ρ A.y D.y ea +⁰ (C.x ⊖ A.x) *⁰ eq-in ρ B.y D.y eb +⁰ (A.x ⊖ B.x) *⁰ eq-in ρ C.y D.y ec)) tt

pub not-below : (q a b c : Point) → pos 0 <ℤ orient2d a b c → Inside a b c q → q.y ≤ℤ a.y → q.y ≤ℤ b.y → q.y ≤ℤ c.y → ⊥
not-below q a b c left I ha hb hc =
    let l₁ : pos 0 <ℤ orient2d b c a = rw orient2d-next at left in
    let l₂ : pos 0 <ℤ orient2d c a b = rw orient2d-next at l₁ in
    let I₁ = next_of I in let I₂ = next_of I₁ in
    flat q a b c left (le_antisymm (corner-low q a b c left I ha hb hc) ha) (le_antisymm (corner-low q b c a l₁ I₁ hb hc ha) hb)
    (le_antisymm (corner-low q c a b l₂ I₂ hc ha hb) hc)

-- THE TOTAL is 1
pub crossings-inside : (q a b c : Point) → pos 0 <ℤ orient2d a b c → Inside a b c q → crossings q a b c ≡ pos 1
crossings-inside q a b c left I =
    rw (crossing-left q a b I.ab, crossing-left q b c I.bc, crossing-left q c a I.ca) (go (under q a) (under q b) (under q c) refl refl refl)
  where
    go : (u v w : Bool) → under q a ≡ u → under q b ≡ v → under q c ≡ w
        → pos (bit (u && not v)) +ℤ pos (bit (v && not w)) +ℤ pos (bit (w && not u)) ≡ pos 1
    go true true true ua ub uc = absurd (not-above q a b c left I (under-yes q a ua) (under-yes q b ub) (under-yes q c uc))
    go false false false ua ub uc = absurd (not-below q a b c left I (under-no q a ua) (under-no q b ub) (under-no q c uc))
    go true false false ua ub uc = refl
    go false true false ua ub uc = refl
    go false false true ua ub uc = refl
    go true true false ua ub uc = refl
    go false true true ua ub uc = refl
    go true false true ua ub uc = refl
