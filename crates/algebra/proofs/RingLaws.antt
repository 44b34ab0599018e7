-- Laws of specs/Ring.antt.
use Rattle.std.specs.Prelude.{◌≡◌, refl, List, [], ◌∷◌, ℕ, zero, suc, ℤ, pos, negsuc, neg_ℤ, ◌+ℤ◌, ◌-ℤ◌, ◌*ℤ◌}
use Rattle.std.proofs.Common.{sym, ◌∙◌, ap, ap₂}
use Rattle.std.proofs.Math.IntN.{+ℤ_assoc, +ℤ_comm, +ℤ_idl, +ℤ_idr, -ℤ-+ℤ_cancel, one, *ℤ-one, *ℤ-zero, zero-*ℤ}
use Rattle.algebra.proofs.Laws.{swap4, +ℤ-*ℤ, *ℤ-+ℤ, *ℤ-assoc, *ℤ-left-comm, minus_one}
use Rattle.algebra.specs.Ring.{P, con, hor, hr, addc, add, mulc, scal, mul, E, var, num, ⊝◌, ◌⊕◌, ◌⊖◌, ◌⊗◌, nth, X, norm}

abbrev pub ev : P → List ℤ → ℤ
ev (con c) ρ = c
ev (hor p q) [] = ev p []
ev (hor p q) (x ∷ ρ) = ev p ρ +ℤ x *ℤ ev q (x ∷ ρ)

-- ---- each operation's value
ev-hr : (p q : P) (ρ : List ℤ) → ev (hr p q) ρ ≡ ev (hor p q) ρ
ev-hr (con c) (con (pos zero)) [] = refl
ev-hr (con c) (con (pos zero)) (x ∷ ρ) = sym (ap (λ (t : ℤ). c +ℤ t) (*ℤ-zero x) ∙ +ℤ_idr c)
ev-hr (con c) (con (pos (suc n))) ρ = refl
ev-hr (con c) (con (negsuc n)) ρ = refl
ev-hr (con c) (hor p q) ρ = refl
ev-hr (hor a b) q ρ = refl

ev-addc : (a : ℤ) (r : P) (ρ : List ℤ) → ev (addc a r) ρ ≡ a +ℤ ev r ρ
ev-addc a (con b) ρ = refl
ev-addc a (hor p q) [] = ev-addc a p []
ev-addc a (hor p q) (x ∷ ρ) = ap (λ (t : ℤ). t +ℤ x *ℤ ev q (x ∷ ρ)) (ev-addc a p ρ) ∙ +ℤ_assoc a (ev p ρ) (x *ℤ ev q (x ∷ ρ))

ev-add : (p r : P) (ρ : List ℤ) → ev (add p r) ρ ≡ ev p ρ +ℤ ev r ρ
ev-add (con a) r ρ = ev-addc a r ρ
ev-add (hor p q) (con b) ρ = ev-addc b (hor p q) ρ ∙ +ℤ_comm b (ev (hor p q) ρ)
ev-add (hor p q) (hor p' q') [] = ev-hr (add p p') (add q q') [] ∙ ev-add p p' []
ev-add (hor p q) (hor p' q') (x ∷ ρ) =
    ev-hr (add p p') (add q q') (x ∷ ρ)
    ∙ ap₂ (λ (s t : ℤ). s +ℤ x *ℤ t) (ev-add p p' ρ) (ev-add q q' (x ∷ ρ))
    ∙ ap (λ (t : ℤ). (ev p ρ +ℤ ev p' ρ) +ℤ t) (*ℤ-+ℤ x (ev q (x ∷ ρ)) (ev q' (x ∷ ρ)))
    ∙ swap4 (ev p ρ) (ev p' ρ) (x *ℤ ev q (x ∷ ρ)) (x *ℤ ev q' (x ∷ ρ))

-- a * (p + x * q), multiplied out
out : (a p x q : ℤ) → a *ℤ p +ℤ x *ℤ (a *ℤ q) ≡ a *ℤ (p +ℤ x *ℤ q)
out a p x q = ap (λ (t : ℤ). a *ℤ p +ℤ t) (*ℤ-left-comm x a q) ∙ sym (*ℤ-+ℤ a p (x *ℤ q))

ev-mulc : (a : ℤ) (r : P) (ρ : List ℤ) → ev (mulc a r) ρ ≡ a *ℤ ev r ρ
ev-mulc a (con b) ρ = refl
ev-mulc a (hor p q) [] = ev-hr (mulc a p) (mulc a q) [] ∙ ev-mulc a p []
ev-mulc a (hor p q) (x ∷ ρ) =
    ev-hr (mulc a p) (mulc a q) (x ∷ ρ)
    ∙ ap₂ (λ (s t : ℤ). s +ℤ x *ℤ t) (ev-mulc a p ρ) (ev-mulc a q (x ∷ ρ)) ∙ out a (ev p ρ) x (ev q (x ∷ ρ))

-- the later variables' values
abbrev low : List ℤ → List ℤ
low [] = []
low (x ∷ ρ) = ρ

ev-scal : (f : P → P) (p : P) → ((s : P) (ρ : List ℤ) → ev (f s) ρ ≡ ev p ρ *ℤ ev s ρ) → (r : P) (ρ : List ℤ)
    → ev (scal f r) ρ ≡ ev p (low ρ) *ℤ ev r ρ
ev-scal f p h (con b) [] = ev-hr (f (con b)) (con (pos zero)) [] ∙ h (con b) []
ev-scal f p h (con b) (x ∷ ρ) = ev-hr (f (con b)) (con (pos zero)) (x ∷ ρ) ∙ ap (λ (t : ℤ). ev (f (con b)) ρ +ℤ t) (*ℤ-zero x) ∙ +ℤ_idr (ev (f (con b)) ρ) ∙ h (con b) ρ
ev-scal f p h (hor s t) [] = ev-hr (f s) (scal f t) [] ∙ h s []
ev-scal f p h (hor s t) (x ∷ ρ) =
    ev-hr (f s) (scal f t) (x ∷ ρ)
    ∙ ap₂ (λ (u v : ℤ). u +ℤ x *ℤ v) (h s ρ) (ev-scal f p h t (x ∷ ρ)) ∙ out (ev p ρ) (ev s ρ) x (ev t (x ∷ ρ))

ev-mul : (p r : P) (ρ : List ℤ) → ev (mul p r) ρ ≡ ev p ρ *ℤ ev r ρ
ev-mul (con (pos zero)) r ρ = sym (zero-*ℤ (ev r ρ))
ev-mul (con (pos (suc n))) r ρ = ev-mulc (pos (suc n)) r ρ
ev-mul (con (negsuc n)) r ρ = ev-mulc (negsuc n) r ρ
ev-mul (hor p q) r [] =
    ev-add (scal (mul p) r) (hr (con (pos zero)) (mul q r)) []
    ∙ ap₂ ◌+ℤ◌ (ev-scal (mul p) p (ev-mul p) r []) (ev-hr (con (pos zero)) (mul q r) []) ∙ +ℤ_idr (ev p [] *ℤ ev r [])
ev-mul (hor p q) r (x ∷ ρ) =
    ev-add (scal (mul p) r) (hr (con (pos zero)) (mul q r)) (x ∷ ρ)
    ∙ ap₂ ◌+ℤ◌ (ev-scal (mul p) p (ev-mul p) r (x ∷ ρ))
    (ev-hr (con (pos zero)) (mul q r) (x ∷ ρ) ∙ +ℤ_idl (x *ℤ ev (mul q r) (x ∷ ρ)) ∙ ap (λ (t : ℤ). x *ℤ t) (ev-mul q r (x ∷ ρ)) ∙ sym (*ℤ-assoc x (ev q (x ∷ ρ)) (ev r (x ∷ ρ))))
    ∙ sym (+ℤ-*ℤ (ev p ρ) (x *ℤ ev q (x ∷ ρ)) (ev r (x ∷ ρ)))

abbrev pub ⟦◌⟧ : E → List ℤ → ℤ
⟦ var i ⟧ ρ = nth ρ i
⟦ num z ⟧ ρ = z
⟦ a ⊕ b ⟧ ρ = ⟦ a ⟧ ρ +ℤ ⟦ b ⟧ ρ
⟦ a ⊖ b ⟧ ρ = ⟦ a ⟧ ρ -ℤ ⟦ b ⟧ ρ
⟦ a ⊗ b ⟧ ρ = ⟦ a ⟧ ρ *ℤ ⟦ b ⟧ ρ
⟦ ⊝ a ⟧ ρ = neg_ℤ (⟦ a ⟧ ρ)

ev-X : (i : ℕ) (ρ : List ℤ) → ev (X i) ρ ≡ nth ρ i
unfolding one
ev-X zero [] = refl
ev-X zero (x ∷ ρ) = +ℤ_idl (x *ℤ pos 1) ∙ *ℤ-one x
ev-X (suc i) [] = ev-X i []
ev-X (suc i) (x ∷ ρ) = ap₂ ◌+ℤ◌ (ev-X i ρ) (*ℤ-zero x) ∙ +ℤ_idr (nth ρ i)

ev-neg : (p : P) (ρ : List ℤ) → ev (mulc (negsuc 0) p) ρ ≡ neg_ℤ (ev p ρ)
ev-neg p ρ = ev-mulc (negsuc 0) p ρ ∙ minus_one (ev p ρ)

pub sound : (e : E) (ρ : List ℤ) → ev (norm e) ρ ≡ ⟦ e ⟧ ρ
sound (var i) ρ = ev-X i ρ
sound (num z) ρ = refl
sound (a ⊕ b) ρ = ev-add (norm a) (norm b) ρ ∙ ap₂ ◌+ℤ◌ (sound a ρ) (sound b ρ)
sound (a ⊖ b) ρ = ev-add (norm a) (mulc (negsuc 0) (norm b)) ρ ∙ ap₂ ◌+ℤ◌ (sound a ρ) (ev-neg (norm b) ρ ∙ ap neg_ℤ (sound b ρ))
sound (a ⊗ b) ρ = ev-mul (norm a) (norm b) ρ ∙ ap₂ ◌*ℤ◌ (sound a ρ) (sound b ρ)
sound (⊝ a) ρ = ev-neg (norm a) ρ ∙ ap neg_ℤ (sound a ρ)

-- ---- the solver: a - b is zero
pub ring : (ρ : List ℤ) (a b : E) → norm (a ⊖ b) ≡ con (pos 0) → ⟦ a ⟧ ρ ≡ ⟦ b ⟧ ρ
ring ρ a b e =
    sym (-ℤ-+ℤ_cancel (⟦ a ⟧ ρ) (⟦ b ⟧ ρ))
    ∙ ap (λ (t : ℤ). t +ℤ ⟦ b ⟧ ρ) (sym (sound (a ⊖ b) ρ) ∙ ap (λ (p : P). ev p ρ) e)
    ∙ +ℤ_idl (⟦ b ⟧ ρ)

-- ---- the first eight variables, and numerals
abbrev pub v0 : E
v0 = var 0

abbrev pub v1 : E
v1 = var 1

abbrev pub v2 : E
v2 = var 2

abbrev pub v3 : E
v3 = var 3

abbrev pub v4 : E
v4 = var 4

abbrev pub v5 : E
v5 = var 5

abbrev pub v6 : E
v6 = var 6

abbrev pub v7 : E
v7 = var 7

abbrev pub #◌ : ℕ → E
#◌ n = num (pos n)

infix 9 #◌
