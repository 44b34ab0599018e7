-- Laws of specs/Bit.antt.
use Rattle.std.specs.Prelude.{◌≡◌, refl, ◌≢◌, ◌⊎◌, Bool, true, false, not, ◌&&◌, ◌||◌, ℕ, ◌<◌, ◌≤◌, T, ltb, leb, eqb}
use Rattle.std.proofs.Common.{sym, subst, inl, inr, arith, ltb→lt, nltb→le, leb→le, eqb→eq, T_not}
use Rattle.std.proofs.Math.Dec.{nleb→lt, eqb_refl, not_T}
-- two tests that pass alike are equal
pub use Rattle.algebra.proofs.Test.{test-ext}
use Rattle.sums.specs.Bit.{bit, implies}

-- ---- what a test tells
abbrev pub Tells : Bool → Type 0 → Type 0 → Type 0
Tells t P Q = (T t → P) × (T (not t) → Q)

pub eq_test : {a b : ℕ} → a ≡ b → T (eqb a b)
eq_test {a} e = subst (λ (m : ℕ). T (eqb a m)) e (eqb_refl a)

pub ne_test : {a b : ℕ} → a ≢ b → T (not (eqb a b))
ne_test {a} {b} n = not_T (eqb a b) (λ t. n (eqb→eq a b t))

pub lt? : (a b : ℕ) → Tells (ltb a b) (a < b) (b ≤ a)
lt? a b = (ltb→lt a b, nltb→le a b)

pub le? : (a b : ℕ) → Tells (leb a b) (a ≤ b) (b < a)
le? a b = (leb→le a b, nleb→lt a b)

pub eq? : (a b : ℕ) → Tells (eqb a b) (a ≡ b) (a ≢ b)
eq? a b = (eqb→eq a b, λ t e. T_not (eqb a b) t (eq_test e))

-- a test that cannot fail
pub sure : (t : Bool) → (T (not t) → ⊥) → T t
sure true h = tt
sure false h = h tt

-- by whether a test passes
pub test : (t : Bool) → T t ⊎ T (not t)
test true = inl tt
test false = inr tt

-- ---- a test's value, by what it tells
pub is_true : (t : Bool) → T t → t ≡ true
is_true true h = refl
is_true false h = absurd h

pub is_false : (t : Bool) → (T t → ⊥) → t ≡ false
is_false true h = absurd (h tt)
is_false false h = refl

pub from-true : {t : Bool} → t ≡ true → T t
from-true e = subst T (sym e) tt

pub from_false : {t : Bool} → t ≡ false → T (not t)
from_false e = subst (λ (t : Bool). T (not t)) (sym e) tt

-- ---- and, or, if
pub and_left : (a b : Bool) → T (a && b) → T a
and_left true b h = tt
and_left false b h = h

pub and_right : (a b : Bool) → T (a && b) → T b
and_right true b h = h
and_right false b h = absurd h

pub and_both : (a b : Bool) → T a → T b → T (a && b)
and_both true b p q = q
and_both false b p q = p

pub or_cases : (a b : Bool) → T (a || b) → T a ⊎ T b
or_cases true b h = inl tt
or_cases false b h = inr h

pub or_left : (a b : Bool) → T a → T (a || b)
or_left true b h = tt
or_left false b h = absurd h

pub or_right : (a b : Bool) → T b → T (a || b)
or_right true b h = tt
or_right false b h = h

pub implies→ : (a b : Bool) → T (implies a b) → T a → T b
implies→ true b h t = h
implies→ false b h t = absurd t

pub implies← : (a b : Bool) → (T a → T b) → T (implies a b)
implies← true b h = h tt
implies← false b h = tt

-- ---- the number of a test
pub bit-yes : (t : Bool) → T t → bit t ≡ 1
bit-yes true h = refl
bit-yes false h = absurd h

pub bit-no : (t : Bool) → (T t → ⊥) → bit t ≡ 0
bit-no true h = absurd (h tt)
bit-no false h = refl

pub bit-0 : (t : Bool) → bit t ≡ 0 → T t → ⊥
bit-0 true e h = omega arith
bit-0 false e h = h

pub bit-1 : (t : Bool) → 0 < bit t → T t
bit-1 true e = tt
bit-1 false e = absurd (omega arith)

pub bit_le : (t : Bool) → bit t ≤ 1
bit_le true = omega arith
bit_le false = omega arith
