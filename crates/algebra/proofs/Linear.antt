-- `omega` for ℤ. Each variable is a difference of two naturals, z = up z - dn z, and so each expression is one:
-- `upᴱ e ρ - dnᴱ e ρ`, sums of products of these parts. So an order or an equation in ℤ is one in ℕ, which `omega`
-- reads, with the parts and their products for its unknowns:
--     lt→ ρ a b h, le→ ρ a b h, eq→ ρ a b h      a hypothesis ⟦ a ⟧ ρ < ⟦ b ⟧ ρ, for omega's list
--     lt← ρ a b (omega (arith, ..)), le← , eq←    the goal
-- Assumes nothing.
use Rattle.std.specs.Prelude.{◌≡◌, refl, List, [], ◌∷◌, ℕ, zero, suc, ◌+◌, ◌*◌, ◌<◌, ◌≤◌, T, ltb, leb, ℤ, pos, negsuc, neg_ℤ, nat_abs, ◌+ℤ◌, ◌-ℤ◌, ◌*ℤ◌, ◌<ℤ◌, ◌≤ℤ◌}
use Rattle.std.proofs.Common.{sym, ◌∙◌, ap, ap₂, subst, subst₂, suc-le-suc, add-zero, le_antisymm, arith, ltb→lt, lt→ltb, leb→le, le→leb}
use Rattle.std.proofs.Math.IntN.{+ℤ_idl}
use Rattle.std.specs.Int.Signed.{lt_z_yes, le_z_yes, ≤ℤ_refl}
use Rattle.algebra.specs.Ring.{E, var, num, ◌⊕◌, ◌⊖◌, ◌⊗◌, ⊝◌, nth, norm}
use Rattle.algebra.proofs.RingLaws.{⟦◌⟧, ring}
use Rattle.algebra.proofs.Order.{lt-sub, sub-lt, le-sub, sub-le}

pub up : ℤ → ℕ
up (pos n) = n
up (negsuc n) = 0

pub dn : ℤ → ℕ
dn (pos n) = 0
dn (negsuc n) = suc n

pub abs-parts : (z : ℤ) → nat_abs z ≡ up z + dn z
unfolding up dn
abs-parts (pos n) = sym (add-zero n)
abs-parts (negsuc n) = omega arith

parts : (z : ℤ) → z ≡ pos (up z) -ℤ pos (dn z)
unfolding up dn
parts (pos n) = ap pos (sym (add-zero n))
parts (negsuc n) = sym (+ℤ_idl (negsuc n))

-- the same of a numeral, which computes
abbrev pub upˡ : ℤ → ℕ
upˡ (pos n) = n
upˡ (negsuc n) = 0

abbrev pub dnˡ : ℤ → ℕ
dnˡ (pos n) = 0
dnˡ (negsuc n) = suc n

partsˡ : (z : ℤ) → z ≡ pos (upˡ z) -ℤ pos (dnˡ z)
partsˡ (pos n) = ap pos (sym (add-zero n))
partsˡ (negsuc n) = sym (+ℤ_idl (negsuc n))

abbrev mutual
  pub upᴱ : E → List ℤ → ℕ
  upᴱ (var i) ρ = up (nth ρ i)
  upᴱ (num z) ρ = upˡ z
  upᴱ (a ⊕ b) ρ = upᴱ a ρ + upᴱ b ρ
  upᴱ (a ⊖ b) ρ = upᴱ a ρ + dnᴱ b ρ
  upᴱ (a ⊗ b) ρ = upᴱ a ρ * upᴱ b ρ + dnᴱ a ρ * dnᴱ b ρ
  upᴱ (⊝ a) ρ = dnᴱ a ρ

  pub dnᴱ : E → List ℤ → ℕ
  dnᴱ (var i) ρ = dn (nth ρ i)
  dnᴱ (num z) ρ = dnˡ z
  dnᴱ (a ⊕ b) ρ = dnᴱ a ρ + dnᴱ b ρ
  dnᴱ (a ⊖ b) ρ = dnᴱ a ρ + upᴱ b ρ
  dnᴱ (a ⊗ b) ρ = upᴱ a ρ * dnᴱ b ρ + dnᴱ a ρ * upᴱ b ρ
  dnᴱ (⊝ a) ρ = upᴱ a ρ

partsᴱ : (e : E) (ρ : List ℤ) → ⟦ e ⟧ ρ ≡ pos (upᴱ e ρ) -ℤ pos (dnᴱ e ρ)
partsᴱ (var i) ρ = parts (nth ρ i)
partsᴱ (num z) ρ = partsˡ z
partsᴱ (a ⊕ b) ρ = ap₂ ◌+ℤ◌ (partsᴱ a ρ) (partsᴱ b ρ) ∙ ring (pos (upᴱ a ρ) ∷ pos (dnᴱ a ρ) ∷ pos (upᴱ b ρ) ∷ pos (dnᴱ b ρ) ∷ []) ((var 0 ⊖ var 1) ⊕ (var 2 ⊖ var 3)) ((var 0 ⊕ var 2) ⊖ (var 1 ⊕ var 3)) refl
partsᴱ (a ⊖ b) ρ = ap₂ ◌-ℤ◌ (partsᴱ a ρ) (partsᴱ b ρ) ∙ ring (pos (upᴱ a ρ) ∷ pos (dnᴱ a ρ) ∷ pos (upᴱ b ρ) ∷ pos (dnᴱ b ρ) ∷ []) ((var 0 ⊖ var 1) ⊖ (var 2 ⊖ var 3)) ((var 0 ⊕ var 3) ⊖ (var 1 ⊕ var 2)) refl
partsᴱ (a ⊗ b) ρ = ap₂ ◌*ℤ◌ (partsᴱ a ρ) (partsᴱ b ρ) ∙ ring (pos (upᴱ a ρ) ∷ pos (dnᴱ a ρ) ∷ pos (upᴱ b ρ) ∷ pos (dnᴱ b ρ) ∷ []) ((var 0 ⊖ var 1) ⊗ (var 2 ⊖ var 3)) ((var 0 ⊗ var 2 ⊕ var 1 ⊗ var 3) ⊖ (var 0 ⊗ var 3 ⊕ var 1 ⊗ var 2)) refl
partsᴱ (⊝ a) ρ = ap neg_ℤ (partsᴱ a ρ) ∙ ring (pos (upᴱ a ρ) ∷ pos (dnᴱ a ρ) ∷ []) (⊝ (var 0 ⊖ var 1)) (var 1 ⊖ var 0) refl

module _ (ρ : List ℤ) (a b : E) where
  abbrev lo : ℕ
  lo = upᴱ a ρ + dnᴱ b ρ

  abbrev hi : ℕ
  hi = upᴱ b ρ + dnᴱ a ρ

  gap : ⟦ b ⟧ ρ -ℤ ⟦ a ⟧ ρ ≡ pos hi -ℤ pos lo
  gap = ap₂ ◌-ℤ◌ (partsᴱ b ρ) (partsᴱ a ρ) ∙ ring (pos (upᴱ a ρ) ∷ pos (dnᴱ a ρ) ∷ pos (upᴱ b ρ) ∷ pos (dnᴱ b ρ) ∷ []) ((var 2 ⊖ var 3) ⊖ (var 0 ⊖ var 1)) ((var 2 ⊕ var 1) ⊖ (var 0 ⊕ var 3)) refl

  pub lt→ : ⟦ a ⟧ ρ <ℤ ⟦ b ⟧ ρ → lo < hi
  lt→ h = ltb→lt lo hi (sub-lt (pos lo) (pos hi) (subst (λ (z : ℤ). pos 0 <ℤ z) gap (lt-sub h))).lt

  pub le→ : ⟦ a ⟧ ρ ≤ℤ ⟦ b ⟧ ρ → lo ≤ hi
  le→ h = leb→le lo hi (sub-le (pos lo) (pos hi) (subst (λ (z : ℤ). pos 0 ≤ℤ z) gap (le-sub h))).le

  pub lt← : lo < hi → ⟦ a ⟧ ρ <ℤ ⟦ b ⟧ ρ
  lt← h = sub-lt (⟦ a ⟧ ρ) (⟦ b ⟧ ρ) (subst (λ (z : ℤ). pos 0 <ℤ z) (sym gap) (lt-sub (lt_z_yes {a = pos lo} {b = pos hi} (lt→ltb lo hi h))))

  pub le← : lo ≤ hi → ⟦ a ⟧ ρ ≤ℤ ⟦ b ⟧ ρ
  le← h = sub-le (⟦ a ⟧ ρ) (⟦ b ⟧ ρ) (subst (λ (z : ℤ). pos 0 ≤ℤ z) (sym gap) (le-sub (le_z_yes {a = pos lo} {b = pos hi} (le→leb lo hi h))))

  pub eq← : lo ≡ hi → ⟦ a ⟧ ρ ≡ ⟦ b ⟧ ρ
  eq← e =
      partsᴱ a ρ ∙ ring env (var 0 ⊖ var 1) (var 0 ⊕ var 3 ⊖ (var 3 ⊕ var 1)) refl
      ∙ ap (λ (n : ℕ). pos n -ℤ (pos (dnᴱ b ρ) +ℤ pos (dnᴱ a ρ))) e
      ∙ ring env (var 2 ⊕ var 1 ⊖ (var 3 ⊕ var 1)) (var 2 ⊖ var 3) refl ∙ sym (partsᴱ b ρ)
    where
      env : List ℤ
      env = pos (upᴱ a ρ) ∷ pos (dnᴱ a ρ) ∷ pos (upᴱ b ρ) ∷ pos (dnᴱ b ρ) ∷ []

pub eq→ : (ρ : List ℤ) (a b : E) → ⟦ a ⟧ ρ ≡ ⟦ b ⟧ ρ → upᴱ a ρ + dnᴱ b ρ ≡ upᴱ b ρ + dnᴱ a ρ
eq→ ρ a b e = le_antisymm (le→ ρ a b (subst (λ (z : ℤ). ⟦ a ⟧ ρ ≤ℤ z) e (≤ℤ_refl (⟦ a ⟧ ρ)))) (le→ ρ b a (subst (λ (z : ℤ). z ≤ℤ ⟦ a ⟧ ρ) e (≤ℤ_refl (⟦ a ⟧ ρ))))
