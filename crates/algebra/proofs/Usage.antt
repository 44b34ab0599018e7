-- How each tool of this crate is used: a law that it proves, to copy from. The names: v0, v1, .. are the numbers of the list ρ, in order,
-- and # n is a numeral.
-- Assumes nothing.
use Rattle.std.specs.Prelude.{◌≡◌, refl, [], ◌∷◌, ℤ, pos, negsuc, ◌+ℤ◌, ◌-ℤ◌, ◌*ℤ◌, ◌<ℤ◌, ◌≤ℤ◌}
use Rattle.std.proofs.Common.{⊎_elim, arith}
use Rattle.algebra.specs.Ring.{◌⊕◌, ◌⊖◌, ◌⊗◌, ⊝◌}
use Rattle.algebra.proofs.RingLaws.{#◌, v0, v1, v2, ring}
use Rattle.algebra.proofs.Sign.{◌+⁺◌, ◌*°◌, weak, less1, sq, pos-in, lt_in, cases, le-by, refute, eq-in, eq-by, ◌+⁰◌}
use Rattle.algebra.proofs.Linear.{lt→, le→, le←, lt←}

-- an identity: the goal, and its two sides again as expressions
square : (x y : ℤ) → (x +ℤ y) *ℤ (x +ℤ y) ≡ x *ℤ x +ℤ pos 2 *ℤ x *ℤ y +ℤ y *ℤ y
square x y = ring (x ∷ y ∷ []) ((v0 ⊕ v1) ⊗ (v0 ⊕ v1)) (v0 ⊗ v0 ⊕ # 2 ⊗ v0 ⊗ v1 ⊕ v1 ⊗ v1) refl

-- an equation from others: 2 a - 6 is the sum of (a + b) - 5 and (a - b) - 1
solved : (a b : ℤ) → a +ℤ b ≡ pos 5 → a -ℤ b ≡ pos 1 → pos 2 *ℤ a ≡ pos 6
solved a b p q = let ρ = a ∷ b ∷ [] in eq-by (eq-in ρ (v0 ⊕ v1) (# 5) p +⁰ eq-in ρ (v0 ⊖ v1) (# 1) q) (# 2 ⊗ v0) (# 6) refl

-- an order by a certificate: the right side less the left is a square
means : (x y : ℤ) → (pos 2 *ℤ x *ℤ y) ≤ℤ (x *ℤ x +ℤ y *ℤ y)
means x y = le-by (sq {ρ = x ∷ y ∷ []} (v0 ⊖ v1)) (# 2 ⊗ v0 ⊗ v1) (v0 ⊗ v0 ⊕ v1 ⊗ v1) refl

-- the numbers are whole: 0 < y - x is 0 ≤ y - x - 1
next : (x y : ℤ) → x <ℤ y → (x +ℤ pos 1) ≤ℤ y
next x y h = le-by (less1 (lt_in (x ∷ y ∷ []) v0 v1 h)) (v0 ⊕ # 1) v1 refl

-- by contradiction: a positive expression whose normal form is 0, or a negative numeral
asym : (x y : ℤ) → x <ℤ y → y <ℤ x → ⊥
asym x y h k = let ρ = x ∷ y ∷ [] in refute (lt_in ρ v0 v1 h +⁺ weak (lt_in ρ v1 v0 k)) tt

-- by the sign of an expression: were x ≤ 0, then k * x + k * (-x) > 0
factor : (k x : ℤ) → pos 0 <ℤ k → pos 0 <ℤ (k *ℤ x) → pos 0 <ℤ x
factor k x hk hx =
    let ρ = k ∷ x ∷ [] in
    ⊎_elim (λ g. g.is) (λ g. absurd (refute (pos-in ρ (v0 ⊗ v1) hx +⁺ weak (pos-in ρ v0 hk) *° g) tt)) (cases ρ v1)

-- by omega, which finds the multiples itself; a product is an unknown of its own
linear : (a b c : ℤ) → (a *ℤ b) <ℤ c → c ≤ℤ negsuc 4 → (b *ℤ a +ℤ pos 5) <ℤ pos 0
linear a b c h k =
    let ρ = a ∷ b ∷ c ∷ [] in
    lt← ρ (v1 ⊗ v0 ⊕ # 5) (# 0) (omega (arith, lt→ ρ (v0 ⊗ v1) v2 h, le→ ρ v2 (⊝ # 5) k))

chain : (a b c : ℤ) → a <ℤ b → b ≤ℤ c → (a +ℤ pos 1) ≤ℤ (c +ℤ pos 4)
chain a b c h k =
    let ρ = a ∷ b ∷ c ∷ [] in
    le← ρ (v0 ⊕ # 1) (v2 ⊕ # 4) (omega (arith, lt→ ρ v0 v1 h, le→ ρ v1 v2 k))
