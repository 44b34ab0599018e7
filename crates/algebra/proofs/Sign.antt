-- Signs of expressions: `Pos ρ e` is 0 < ⟦ e ⟧ ρ, and `NN ρ e` is 0 ≤ ⟦ e ⟧ ρ. Each rule says the sign of a sum, a
-- product or a square, and antt infers the expression.
-- So a proof of a sign is a certificate: hypotheses are multiplied and added, and the solver compares the outcome with
-- what is to be shown (`pos-by`), or sees that it cannot be positive (`refute`).
-- Assumes nothing.
use Rattle.std.specs.Prelude.{◌≡◌, refl, ◌⊎◌, List, [], ◌∷◌, Bool, true, false, ℕ, zero, suc, T, ℤ, pos, negsuc, neg_ℤ, ◌+ℤ◌, ◌-ℤ◌, ◌*ℤ◌, ◌<ℤ◌, ◌≤ℤ◌}
use Rattle.std.proofs.Common.{sym, ◌∙◌, ap, ap₂, subst, inl, inr, ⊎_elim}
use Rattle.std.proofs.Math.IntN.{*ℤ-zero, +ℤ_invr, +ℤ_idl, -ℤ-+ℤ_cancel}
use Rattle.std.specs.Int.Signed.{lt_z, clash_ℤ, le_z_yes}
use Rattle.algebra.specs.Ring.{P, con, hor, E, var, num, ◌⊕◌, ◌⊖◌, ◌⊗◌, ⊝◌, norm}
use Rattle.algebra.proofs.RingLaws.{ev, ⟦◌⟧, sound, ring}
use Rattle.algebra.proofs.Order.{lt-sub, sub-lt, le-sub, sub-le, lt-le, mul-0<, mul-0≤, sq-0≤, add-0<, add-0≤, sign, pred-0≤}

pub record Pos (ρ : List ℤ) (e : E) : Type 0 where
  pub is : pos 0 <ℤ ⟦ e ⟧ ρ

pub record NN (ρ : List ℤ) (e : E) : Type 0 where
  pub is : pos 0 ≤ℤ ⟦ e ⟧ ρ

infixl 6 ◌+⁺◌ ◌+°◌
infixl 7 ◌*⁺◌ ◌*°◌
pub ◌*⁺◌ : {ρ : List ℤ} {e f : E} → Pos ρ e → Pos ρ f → Pos ρ (e ⊗ f)
h *⁺ k = record { is = mul-0< h.is k.is }

pub ◌*°◌ : {ρ : List ℤ} {e f : E} → NN ρ e → NN ρ f → NN ρ (e ⊗ f)
h *° k = record { is = mul-0≤ h.is k.is }

-- a positive number and one that is not negative
pub ◌+⁺◌ : {ρ : List ℤ} {e f : E} → Pos ρ e → NN ρ f → Pos ρ (e ⊕ f)
h +⁺ k = record { is = add-0< h.is k.is }

pub ◌+°◌ : {ρ : List ℤ} {e f : E} → NN ρ e → NN ρ f → NN ρ (e ⊕ f)
h +° k = record { is = add-0≤ h.is k.is }

pub weak : {ρ : List ℤ} {e : E} → Pos ρ e → NN ρ e
weak h = record { is = lt-le h.is }

-- 0 < e is 0 ≤ e - 1: that the numbers are whole
pub less1 : {ρ : List ℤ} {e : E} → Pos ρ e → NN ρ (e ⊖ num (pos 1))
less1 h = record { is = pred-0≤ h.is }

pub sq : {ρ : List ℤ} (e : E) → NN ρ (e ⊗ e)
sq {ρ} e = record { is = sq-0≤ (⟦ e ⟧ ρ) }

-- ---- in: a fact of ℤ, with the expressions of its two sides
module _ (ρ : List ℤ) where
  pub pos-in : (e : E) → pos 0 <ℤ ⟦ e ⟧ ρ → Pos ρ e
  pos-in e h = record { is = h }

  pub nn-in : (e : E) → pos 0 ≤ℤ ⟦ e ⟧ ρ → NN ρ e
  nn-in e h = record { is = h }

  pub lt_in : (a b : E) → ⟦ a ⟧ ρ <ℤ ⟦ b ⟧ ρ → Pos ρ (b ⊖ a)
  lt_in a b h = record { is = lt-sub h }

  pub le_in : (a b : E) → ⟦ a ⟧ ρ ≤ℤ ⟦ b ⟧ ρ → NN ρ (b ⊖ a)
  le_in a b h = record { is = le-sub h }

  pub cases : (e : E) → Pos ρ e ⊎ NN ρ (⊝ e)
  cases e = ⊎_elim (λ h. inl (record { is = h })) (λ h. inr (record { is = h })) (sign (⟦ e ⟧ ρ))

-- ---- out: what has the same normal form has the same sign
pub pos-by : {ρ : List ℤ} {e : E} → Pos ρ e → (f : E) → norm (e ⊖ f) ≡ con (pos 0) → Pos ρ f
pos-by {ρ} {e} h f p = record { is = subst (λ (z : ℤ). pos 0 <ℤ z) (ring ρ e f p) h.is }

pub nn-by : {ρ : List ℤ} {e : E} → NN ρ e → (f : E) → norm (e ⊖ f) ≡ con (pos 0) → NN ρ f
nn-by {ρ} {e} h f p = record { is = subst (λ (z : ℤ). pos 0 ≤ℤ z) (ring ρ e f p) h.is }

-- a < b by a certificate of b - a
pub lt_by : {ρ : List ℤ} {e : E} → Pos ρ e → (a b : E) → norm (e ⊖ (b ⊖ a)) ≡ con (pos 0) → ⟦ a ⟧ ρ <ℤ ⟦ b ⟧ ρ
lt_by {ρ} h a b p = sub-lt (⟦ a ⟧ ρ) (⟦ b ⟧ ρ) (pos-by h (b ⊖ a) p).is

pub le-by : {ρ : List ℤ} {e : E} → NN ρ e → (a b : E) → norm (e ⊖ (b ⊖ a)) ≡ con (pos 0) → ⟦ a ⟧ ρ ≤ℤ ⟦ b ⟧ ρ
le-by {ρ} h a b p = sub-le (⟦ a ⟧ ρ) (⟦ b ⟧ ρ) (nn-by h (b ⊖ a) p).is

-- a constant that is not positive
abbrev pub none : P → Bool
none (con (pos zero)) = true
none (con (pos (suc n))) = false
none (con (negsuc n)) = true
none (hor p q) = false

none-ev : (p : P) (ρ : List ℤ) → T (none p) → pos 0 <ℤ ev p ρ → ⊥
none-ev (con (pos zero)) ρ t h = clash_ℤ h (le_z_yes tt)
none-ev (con (pos (suc n))) ρ t h = t
none-ev (con (negsuc n)) ρ t h = h.lt
none-ev (hor p q) ρ t h = t

pub refute : {ρ : List ℤ} {e : E} → Pos ρ e → T (none (norm e)) → ⊥
refute {ρ} {e} h t = none-ev (norm e) ρ t (subst (λ (z : ℤ). pos 0 <ℤ z) (sym (sound e ρ)) h.is)

-- ---- equations that follow from others: a - b as a sum of multiples of l - r, for hypotheses l ≡ r
pub record Zero (ρ : List ℤ) (e : E) : Type 0 where
  pub is : ⟦ e ⟧ ρ ≡ pos 0

infixl 6 ◌+⁰◌
infixr 7 ◌*⁰◌
pub ◌+⁰◌ : {ρ : List ℤ} {e f : E} → Zero ρ e → Zero ρ f → Zero ρ (e ⊕ f)
h +⁰ k = record { is = ap₂ ◌+ℤ◌ h.is k.is }

pub ◌*⁰◌ : {ρ : List ℤ} {e : E} (c : E) → Zero ρ e → Zero ρ (c ⊗ e)
◌*⁰◌ {ρ} c h = record { is = ap (λ (z : ℤ). ⟦ c ⟧ ρ *ℤ z) h.is ∙ *ℤ-zero (⟦ c ⟧ ρ) }

pub eq-in : (ρ : List ℤ) (a b : E) → ⟦ a ⟧ ρ ≡ ⟦ b ⟧ ρ → Zero ρ (a ⊖ b)
eq-in ρ a b p = record { is = ap (λ (z : ℤ). z -ℤ ⟦ b ⟧ ρ) p ∙ +ℤ_invr (⟦ b ⟧ ρ) }

pub eq-by : {ρ : List ℤ} {e : E} → Zero ρ e → (a b : E) → norm (e ⊖ (a ⊖ b)) ≡ con (pos 0) → ⟦ a ⟧ ρ ≡ ⟦ b ⟧ ρ
eq-by {ρ} {e} h a b p =
    sym (-ℤ-+ℤ_cancel (⟦ a ⟧ ρ) (⟦ b ⟧ ρ)) ∙ ap (λ (z : ℤ). z +ℤ ⟦ b ⟧ ρ) (sym (ring ρ e (a ⊖ b) p) ∙ h.is) ∙ +ℤ_idl (⟦ b ⟧ ρ)

-- an equation in a certificate of a sign, with whatever factor
pub zero° : {ρ : List ℤ} {e : E} → Zero ρ e → NN ρ e
zero° h = record { is = subst (λ (z : ℤ). pos 0 ≤ℤ z) (sym h.is) (le_z_yes tt) }
