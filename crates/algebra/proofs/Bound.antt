-- Bounds on absolute values, and what the machine's signed integers hold.
-- A signed local holds bits, so the logic has `to_z w (of_z w z)` where the code reads a number z that it wrote: the
-- machine's number of `x * y - z` is a tower of these. The tower is its number where nothing overflows, and that is a
-- test of bounds, which computes.
-- A proof gives an `Env ρ β`: for each number of ρ that its absolute value is at most the bound in β,
-- `h₁ ∷ᵉ h₂ ∷ᵉ []ᵉ`. Then, for an expression e over those numbers,
--     fits64 env e tt      the last operation of e does not overflow an i64 (a need `add-..`, `sub-..`, `mul-..`)
--     reads64 env e tt     the local that e was written to is ⟦ e ⟧ ρ (in `returns`, at a call's argument)
--     raws64 env e tt      the same before it was written, for a test of equality, which the logic makes on the bits `of_z w64 (raw ..)`
--     within env e         |⟦ e ⟧ ρ| is at most the bound that is computed, `bnd β e`
-- Assumes nothing.
use Rattle.std.specs.Prelude.{◌≡◌, refl, Bool, true, false, not, cond, ℕ, zero, suc, ◌+◌, ◌*◌, ◌-◌, ◌^◌, ◌<◌, ◌≤◌, T, leb, ltb, ℤ, pos, negsuc, neg_ℤ, nat_abs, ◌+ℤ◌, ◌-ℤ◌, ◌*ℤ◌, ◌≤ℤ◌, List, [], ◌∷◌}
use Rattle.std.proofs.Common.{sym, ◌∙◌, ap, ap₂, subst, zero-le, suc-le-suc, le_refl, not-suc-le-zero, le_of_suc-le-suc, le_trans, le_of_eq, add-le-add, mul-le-mul, lt_of_le_of_lt, arith, ltb→lt, leb→le, le→leb, to_z-of_z}
use Rattle.std.proofs.Math.Nat.{le-suc}
use Rattle.std.proofs.Math.IntN.{sub_ℕ}
use Rattle.std.specs.Int.Signed.{mag, le_z, le_z_yes}
use Rattle.std.specs.Int.{Width, w64}
use mir.Val.{SFits, hbits, to_z, of_z}
use Rattle.algebra.specs.Ring.{E, var, num, ◌⊕◌, ◌⊖◌, ◌⊗◌, ⊝◌, nth}
use Rattle.algebra.proofs.RingLaws.{⟦◌⟧}

pub nat_abs-neg : (x : ℤ) → nat_abs (neg_ℤ x) ≡ nat_abs x
nat_abs-neg (pos zero) = refl
nat_abs-neg (pos (suc n)) = refl
nat_abs-neg (negsuc n) = refl

-- whichever way the test of `sub_ℕ` went
sub-abs : (a b : ℕ) (t : Bool) → nat_abs (cond t (negsuc (suc b - suc a)) (pos (a - suc b))) ≤ a + suc b
sub-abs a b true = omega arith
sub-abs a b false = omega arith

pub nat_abs-+ : (x y : ℤ) → nat_abs (x +ℤ y) ≤ nat_abs x + nat_abs y
nat_abs-+ (pos a) (pos b) = le_refl (a + b)
nat_abs-+ (pos a) (negsuc b) = sub-abs a b (ltb a (suc b))
nat_abs-+ (negsuc a) (pos b) = le_trans (sub-abs b a (ltb b (suc a))) (omega arith)
nat_abs-+ (negsuc a) (negsuc b) = omega arith

pub nat_abs-* : (x y : ℤ) → nat_abs (x *ℤ y) ≡ nat_abs x * nat_abs y
nat_abs-* (pos a) (pos b) = refl
nat_abs-* (pos a) (negsuc b) = nat_abs-neg (pos (a * suc b))
nat_abs-* (negsuc a) (pos b) = nat_abs-neg (pos (suc a * b))
nat_abs-* (negsuc a) (negsuc b) = refl

mag-abs : (z : ℤ) → mag z ≤ nat_abs z
mag-abs (pos n) = le_refl n
mag-abs (negsuc n) = le-suc n

-- ---- what the machine's number v is, and its bound
pub record Rd (B : ℕ) (v z : ℤ) : Type 0 where
  pub is : v ≡ z
  pub abs : nat_abs z ≤ B

infixl 6 ◌+ᴹ◌ ◌-ᴹ◌
infixl 7 ◌*ᴹ◌
pub ◌+ᴹ◌ : {A B : ℕ} {u v x y : ℤ} → Rd A u x → Rd B v y → Rd (A + B) (u +ℤ v) (x +ℤ y)
◌+ᴹ◌ {x = x} {y = y} p q = record { is = ap₂ ◌+ℤ◌ p.is q.is; abs = le_trans (nat_abs-+ x y) (add-le-add p.abs q.abs) }

pub negᴹ : {B : ℕ} {v y : ℤ} → Rd B v y → Rd B (neg_ℤ v) (neg_ℤ y)
negᴹ {y = y} q = record { is = ap neg_ℤ q.is; abs = le_trans (le_of_eq (nat_abs-neg y)) q.abs }

pub ◌-ᴹ◌ : {A B : ℕ} {u v x y : ℤ} → Rd A u x → Rd B v y → Rd (A + B) (u -ℤ v) (x -ℤ y)
p -ᴹ q = p +ᴹ negᴹ q

pub ◌*ᴹ◌ : {A B : ℕ} {u v x y : ℤ} → Rd A u x → Rd B v y → Rd (A * B) (u *ℤ v) (x *ℤ y)
◌*ᴹ◌ {x = x} {y = y} p q = record { is = ap₂ ◌*ℤ◌ p.is q.is; abs = le_trans (le_of_eq (nat_abs-* x y)) (mul-le-mul p.abs q.abs) }

-- a number below 2 ^ 63 at i64 fits
pub fits : {w : Width} {B : ℕ} {v z : ℤ} → Rd B v z → T (ltb B (2 ^ hbits w)) → SFits w v
fits {w} {B} {v} {z} p t =
    subst (SFits w) (sym p.is) (record { sfits = lt_of_le_of_lt (le_trans (mag-abs z) p.abs) (ltb→lt B (2 ^ hbits w) t) })

-- and is read back as it was written
pub back : (w : Width) {B : ℕ} {v z : ℤ} → Rd B v z → T (ltb B (2 ^ hbits w)) → Rd B (to_z w (of_z w v)) z
back w p t = record { is = to_z-of_z {w = w} (fits {w = w} p t) ∙ p.is; abs = p.abs }

-- ---- the same for a whole expression
pub data Env : List ℤ → List ℕ → Type 0 where
  []ᵉ : Env [] []
  ◌∷ᵉ◌ : {x : ℤ} {B : ℕ} {ρ : List ℤ} {β : List ℕ} → nat_abs x ≤ B → Env ρ β → Env (x ∷ ρ) (B ∷ β)

infixr 5 ◌∷ᵉ◌
abbrev pub lim : List ℕ → ℕ → ℕ
lim [] i = 0
lim (B ∷ β) zero = B
lim (B ∷ β) (suc i) = lim β i

abbrev pub bnd : List ℕ → E → ℕ
bnd β (var i) = lim β i
bnd β (num z) = nat_abs z
bnd β (a ⊕ b) = bnd β a + bnd β b
bnd β (a ⊖ b) = bnd β a + bnd β b
bnd β (a ⊗ b) = bnd β a * bnd β b
bnd β (⊝ a) = bnd β a

abbrev pub both : Bool → Bool → Bool
both true t = t
both false t = false

abbrev pub ok : Width → List ℕ → E → Bool
ok w β (var i) = ltb (lim β i) (2 ^ hbits w)
ok w β (num z) = ltb (nat_abs z) (2 ^ hbits w)
ok w β (a ⊕ b) = both (both (ok w β a) (ok w β b)) (ltb (bnd β a + bnd β b) (2 ^ hbits w))
ok w β (a ⊖ b) = both (both (ok w β a) (ok w β b)) (ltb (bnd β a + bnd β b) (2 ^ hbits w))
ok w β (a ⊗ b) = both (both (ok w β a) (ok w β b)) (ltb (bnd β a * bnd β b) (2 ^ hbits w))
ok w β (⊝ a) = both (ok w β a) (ltb (bnd β a) (2 ^ hbits w))

-- what the machine computes at e's last operation, and what it reads of the local that this was written to
abbrev pub raw : Width → E → List ℤ → ℤ
raw w (var i) ρ = nth ρ i
raw w (num z) ρ = z
raw w (a ⊕ b) ρ = to_z w (of_z w (raw w a ρ)) +ℤ to_z w (of_z w (raw w b ρ))
raw w (a ⊖ b) ρ = to_z w (of_z w (raw w a ρ)) -ℤ to_z w (of_z w (raw w b ρ))
raw w (a ⊗ b) ρ = to_z w (of_z w (raw w a ρ)) *ℤ to_z w (of_z w (raw w b ρ))
raw w (⊝ a) ρ = neg_ℤ (to_z w (of_z w (raw w a ρ)))

abbrev pub mach : Width → E → List ℤ → ℤ
mach w e ρ = to_z w (of_z w (raw w e ρ))

both_l : (a b : Bool) → T (both a b) → T a
both_l true b t = tt
both_l false b t = t

both_r : (a b : Bool) → T (both a b) → T b
both_r true b t = t
both_r false b t = absurd t

at : (ρ : List ℤ) (β : List ℕ) → Env ρ β → (i : ℕ) → nat_abs (nth ρ i) ≤ lim β i
at ρ β []ᵉ i = zero-le
at ρ β (h ∷ᵉ s) zero = h
at ρ β (◌∷ᵉ◌ {ρ = ρ'} {β = β'} h s) (suc i) = at ρ' β' s i

pub within : {ρ : List ℤ} {β : List ℕ} → Env ρ β → (e : E) → nat_abs (⟦ e ⟧ ρ) ≤ bnd β e
within {ρ} {β} s (var i) = at ρ β s i
within s (num z) = le_refl (nat_abs z)
within {ρ} s (a ⊕ b) = le_trans (nat_abs-+ (⟦ a ⟧ ρ) (⟦ b ⟧ ρ)) (add-le-add (within s a) (within s b))
within {ρ} s (a ⊖ b) = le_trans (nat_abs-+ (⟦ a ⟧ ρ) (neg_ℤ (⟦ b ⟧ ρ))) (add-le-add (within s a) (le_trans (le_of_eq (nat_abs-neg (⟦ b ⟧ ρ))) (within s b)))
within {ρ} s (a ⊗ b) = le_trans (le_of_eq (nat_abs-* (⟦ a ⟧ ρ) (⟦ b ⟧ ρ))) (mul-le-mul (within s a) (within s b))
within {ρ} s (⊝ a) = le_trans (le_of_eq (nat_abs-neg (⟦ a ⟧ ρ))) (within s a)

module _ (w : Width) (ρ : List ℤ) (β : List ℕ) (s : Env ρ β) where
  -- an operation's operands, and its bound
  two : (a b : E) (n : ℕ) → T (both (both (ok w β a) (ok w β b)) (ltb n (2 ^ hbits w)))
      → T (ok w β a) × T (ok w β b) × T (ltb n (2 ^ hbits w))
  two a b n t =
      let u = both_l (both (ok w β a) (ok w β b)) (ltb n (2 ^ hbits w)) t in
      (both_l (ok w β a) (ok w β b) u, both_r (ok w β a) (ok w β b) u, both_r (both (ok w β a) (ok w β b)) (ltb n (2 ^ hbits w)) t)

  pub room : (e : E) → T (ok w β e) → T (ltb (bnd β e) (2 ^ hbits w))
  room (var i) t = t
  room (num z) t = t
  room (a ⊕ b) t = (two a b (bnd β a + bnd β b) t).2
  room (a ⊖ b) t = (two a b (bnd β a + bnd β b) t).2
  room (a ⊗ b) t = (two a b (bnd β a * bnd β b) t).2
  room (⊝ a) t = both_r (ok w β a) (ltb (bnd β a) (2 ^ hbits w)) t

  pub rd : (e : E) → T (ok w β e) → Rd (bnd β e) (raw w e ρ) (⟦ e ⟧ ρ)
  rd (var i) t = record { is = refl; abs = at ρ β s i }
  rd (num z) t = record { is = refl; abs = le_refl (nat_abs z) }
  rd (a ⊕ b) t = let u = two a b (bnd β a + bnd β b) t in back w (rd a u.0) (room a u.0) +ᴹ back w (rd b u.1) (room b u.1)
  rd (a ⊖ b) t = let u = two a b (bnd β a + bnd β b) t in back w (rd a u.0) (room a u.0) -ᴹ back w (rd b u.1) (room b u.1)
  rd (a ⊗ b) t = let u = two a b (bnd β a * bnd β b) t in back w (rd a u.0) (room a u.0) *ᴹ back w (rd b u.1) (room b u.1)
  rd (⊝ a) t = let u = both_l (ok w β a) (ltb (bnd β a) (2 ^ hbits w)) t in negᴹ (back w (rd a u) (room a u))

-- ---- what a proof cites, at an i64. At another width w it cites the right sides, with w for w64
module _ {ρ : List ℤ} {β : List ℕ} (s : Env ρ β) (e : E) (t : T (ok w64 β e)) where
  pub fits64 : SFits w64 (raw w64 e ρ)
  fits64 = fits (rd w64 ρ β s e t) (room w64 ρ β s e t)

  pub reads64 : mach w64 e ρ ≡ ⟦ e ⟧ ρ
  reads64 = (back w64 (rd w64 ρ β s e t) (room w64 ρ β s e t)).is

  pub raws64 : raw w64 e ρ ≡ ⟦ e ⟧ ρ
  raws64 = (rd w64 ρ β s e t).is

-- ---- one number by its bound, as before a cast: that it fits a width, and that what the machine reads back has the bound too
pub small-fits : (w : Width) {z : ℤ} {B : ℕ} → nat_abs z ≤ B → T (ltb B (2 ^ hbits w)) → SFits w z
small-fits w h t = fits {w = w} (record { is = refl; abs = h }) t

pub small-read : (w : Width) (z : ℤ) {B : ℕ} → nat_abs z ≤ B → T (ltb B (2 ^ hbits w)) → nat_abs (to_z w (of_z w z)) ≤ B
small-read w z {B} h t = subst (λ (v : ℤ). nat_abs v ≤ B) {x = z} (sym (to_z-of_z (small-fits w {z = z} h t))) h

-- ---- a bound on the absolute value is one from both sides
pub abs-le : {z : ℤ} {B : ℕ} → nat_abs z ≤ B → z ≤ℤ pos B
abs-le {z} {B} h = le_z_yes (go z h)
  where
    go : (z : ℤ) → nat_abs z ≤ B → T (le_z z (pos B))
    go (pos a) h = le→leb a B h
    go (negsuc a) h = tt

pub abs-ge : {z : ℤ} {B : ℕ} → nat_abs z ≤ B → neg_ℤ (pos B) ≤ℤ z
abs-ge {z} {B} h = le_z_yes (go B z h)
  where
    go : (B : ℕ) (z : ℤ) → nat_abs z ≤ B → T (le_z (neg_ℤ (pos B)) z)
    go zero (pos a) h = le→leb zero a zero-le
    go (suc B) (pos a) h = tt
    go zero (negsuc a) h = absurd (not-suc-le-zero h)
    go (suc B) (negsuc a) h = le→leb a B (le_of_suc-le-suc h)

pub abs-by : {z : ℤ} {B : ℕ} → neg_ℤ (pos B) ≤ℤ z → z ≤ℤ pos B → nat_abs z ≤ B
abs-by {z} {B} h k = go B z h.le k.le
  where
    go : (B : ℕ) (z : ℤ) → T (le_z (neg_ℤ (pos B)) z) → T (le_z z (pos B)) → nat_abs z ≤ B
    go B (pos a) h k = leb→le a B k
    go zero (negsuc a) h k = absurd h
    go (suc B) (negsuc a) h k = suc-le-suc (leb→le a B h)
