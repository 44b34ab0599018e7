-- A solver for identities of commutative rings, at ℤ.
-- An identity is written twice: as the goal, over ℤ, and as two expressions `E` over an environment, the list of the
-- values of the variables.
-- `ring ρ a b refl` proves ⟦ a ⟧ ρ ≡ ⟦ b ⟧ ρ. The checker computes the normal form of a - b, which must be zero, and
-- sees by computation that ⟦ a ⟧ ρ is the goal's left side.
-- Assumes nothing.
use Rattle.std.specs.Prelude.{◌≡◌, refl, List, [], ◌∷◌, ℕ, zero, suc, ℤ, pos, negsuc, neg_ℤ, ◌+ℤ◌, ◌-ℤ◌, ◌*ℤ◌}
use Rattle.std.proofs.Common.{sym, ◌∙◌, ap, ap₂}
use Rattle.std.proofs.Math.IntN.{+ℤ_assoc, +ℤ_comm, +ℤ_idl, +ℤ_idr, -ℤ-+ℤ_cancel, one, *ℤ-one, *ℤ-zero, zero-*ℤ}

-- ---- polynomials, by Horner's rule: `hor p q` at x ∷ ρ is p at ρ plus x times q at x ∷ ρ. A constant is one in any number of variables
pub data P : Type 0 where
  con : ℤ → P
  hor : P → P → P

-- `hor`, which keeps a constant a constant
abbrev pub hr : P → P → P
hr (con c) (con (pos zero)) = con c
hr (con c) (con (pos (suc n))) = hor (con c) (con (pos (suc n)))
hr (con c) (con (negsuc n)) = hor (con c) (con (negsuc n))
hr (con c) (hor p q) = hor (con c) (hor p q)
hr (hor a b) q = hor (hor a b) q

abbrev pub addc : ℤ → P → P
addc a (con b) = con (a +ℤ b)
addc a (hor p q) = hor (addc a p) q

abbrev pub add : P → P → P
add (con a) r = addc a r
add (hor p q) (con b) = addc b (hor p q)
add (hor p q) (hor p' q') = hr (add p p') (add q q')

abbrev pub mulc : ℤ → P → P
mulc a (con b) = con (a *ℤ b)
mulc a (hor p q) = hr (mulc a p) (mulc a q)

-- each coefficient by f, which is the product with a polynomial in the later variables
abbrev pub scal : (P → P) → P → P
scal f (con b) = hr (f (con b)) (con (pos zero))
scal f (hor p q) = hr (f p) (scal f q)

abbrev pub mul : P → P → P
mul (con (pos zero)) r = con (pos zero)
mul (con (pos (suc n))) r = mulc (pos (suc n)) r
mul (con (negsuc n)) r = mulc (negsuc n) r
mul (hor p q) r = add (scal (mul p) r) (hr (con (pos zero)) (mul q r))

-- ---- expressions
pub data E : Type 0 where
  var : ℕ → E
  num : ℤ → E
  ◌⊕◌ ◌⊖◌ ◌⊗◌ : E → E → E
  ⊝◌ : E → E

infixl 6 ◌⊕◌ ◌⊖◌
infixl 7 ◌⊗◌
infix 8 ⊝◌
abbrev pub nth : List ℤ → ℕ → ℤ
nth [] i = pos zero
nth (x ∷ ρ) zero = x
nth (x ∷ ρ) (suc i) = nth ρ i

abbrev pub X : ℕ → P
X zero = hor (con (pos 0)) (con (pos 1))
X (suc i) = hor (X i) (con (pos 0))

abbrev pub norm : E → P
norm (var i) = X i
norm (num z) = con z
norm (a ⊕ b) = add (norm a) (norm b)
norm (a ⊖ b) = add (norm a) (mulc (negsuc 0) (norm b))
norm (a ⊗ b) = mul (norm a) (norm b)
norm (⊝ a) = mulc (negsuc 0) (norm a)
