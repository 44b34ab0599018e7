-- `contains` of a row's first entries, one entry at a time from the last, and four at a time. Assumes nothing.
use Rattle.std.specs.Prelude.{Bool, true, false, ◌||◌, eqb, List, ◌≡◌, refl, ℕ, zero, suc, ◌-◌, ◌≤◌, ◌<◌, get_or}
use Rattle.std.proofs.Math.Path.{sym}
use Rattle.std.proofs.Common.{◌∙◌, ap, arith}
use borrow.Author.Tests.{eq-eqb, ne_eqb}
use Rattle.pending.specs.Pending.{pending_of, contains}
use Rattle.pending.proofs.PendingLaws.{pending-last}

-- u is one of four
unfoldable pub one_of : ℕ → ℕ → ℕ → ℕ → ℕ → Bool
one_of u a b c d = eqb u a || (eqb u b || (eqb u c || eqb u d))

-- ---- `contains`, entry by entry from the last
pub contains-none : (x n : ℕ) (row : List ℕ) → n ≤ 0 → contains x (pending_of row n) ≡ false
unfolding contains pending_of
contains-none x zero row l = refl
contains-none x (suc n) row l = absurd (omega arith)

pub contains-here : (x n : ℕ) (row : List ℕ) → 0 < n → x ≡ get_or row (n - 1) 0 → contains x (pending_of row n) ≡ true
unfolding contains
contains-here x n row l e = rw (pending-last row n l, eq-eqb x (get_or row (n - 1) 0) e) refl

pub contains-not-here : (x n : ℕ) (row : List ℕ) → 0 < n → (x ≡ get_or row (n - 1) 0 → ⊥)
    → contains x (pending_of row n) ≡ contains x (pending_of row (n - 1))
unfolding contains
contains-not-here x n row l e = rw (pending-last row n l, ne_eqb x (get_or row (n - 1) 0) e) refl

-- ---- four entries at a time
pub contains-four : (row : List ℕ) (i x : ℕ) → 4 ≤ i
    → contains x (pending_of row i)
    ≡ (one_of x (get_or row (i - 1) 0) (get_or row (i - 2) 0) (get_or row (i - 3) 0) (get_or row (i - 4) 0) || contains x (pending_of row (i - 4)))
unfolding pending_of contains one_of
contains-four row zero x l = absurd (omega arith)
contains-four row (suc zero) x l = absurd (omega arith)
contains-four row (suc (suc zero)) x l = absurd (omega arith)
contains-four row (suc (suc (suc zero))) x l = absurd (omega arith)
contains-four row (suc (suc (suc (suc i)))) x l =
    let a : suc (suc (suc (suc i))) - 1 ≡ suc (suc (suc i)) = omega arith in
    let b : suc (suc (suc (suc i))) - 2 ≡ suc (suc i) = omega arith in
    let c : suc (suc (suc (suc i))) - 3 ≡ suc i = omega arith in
    let d : suc (suc (suc (suc i))) - 4 ≡ i = omega arith in
    rw (a, b, c, d)
    (four (eqb x (get_or row (suc (suc (suc i))) 0)) (eqb x (get_or row (suc (suc i)) 0)) (eqb x (get_or row (suc i) 0)) (eqb x (get_or row i 0)) (contains x (pending_of row i)))
  where
    four : (a b c d e : Bool) → (a || (b || (c || (d || e)))) ≡ ((a || (b || (c || d))) || e)
    four true b c d e = refl
    four false true c d e = refl
    four false false true d e = refl
    four false false false d e = refl

module _ (row : List ℕ) (i x : ℕ) (l : 4 ≤ i) where
  abbrev one_of_four : Bool
  one_of_four = one_of x (get_or row (i - 1) 0) (get_or row (i - 2) 0) (get_or row (i - 3) 0) (get_or row (i - 4) 0)

  pub four-found : one_of_four ≡ true → contains x (pending_of row i) ≡ true
  four-found e = contains-four row i x l ∙ ap (λ (b : Bool). b || contains x (pending_of row (i - 4))) e

  pub four-not-found : one_of_four ≡ false → contains x (pending_of row i) ≡ contains x (pending_of row (i - 4))
  four-not-found e = contains-four row i x l ∙ ap (λ (b : Bool). b || contains x (pending_of row (i - 4))) e

-- the tests of the four, one after the other
module _ (x a b c d : ℕ) where
  pub one-first : x ≡ a → true ≡ one_of x a b c d
  unfolding one_of
  one-first e = sym (rw (eq-eqb x a e) refl)

  module _ (na : x ≡ a → ⊥) where
    pub one-second : x ≡ b → true ≡ one_of x a b c d
    unfolding one_of
    one-second e = sym (rw (ne_eqb x a na, eq-eqb x b e) refl)

    module _ (nb : x ≡ b → ⊥) where
      pub one-third : x ≡ c → true ≡ one_of x a b c d
      unfolding one_of
      one-third e = sym (rw (ne_eqb x a na, ne_eqb x b nb, eq-eqb x c e) refl)

      pub one-fourth : (x ≡ c → ⊥) → eqb x d ≡ one_of x a b c d
      unfolding one_of
      one-fourth nc = sym (rw (ne_eqb x a na, ne_eqb x b nb, ne_eqb x c nc) refl)
