-- What proofs by cases on half-edges need beside `Cases` of sums. Assumes nothing.
use Rattle.std.specs.Prelude.{ℕ, ◌<◌, ◌≡◌, ◌≢◌, List, [], ◌∷◌}
use Rattle.std.proofs.Common.{sym}
use Rattle.sums.proofs.Cases.{All, None, each}

-- a premise that a statement at each of the list leaves unused
pub given : (P Q : ℕ → Type 0) (l : List ℕ) → All P l → All (λ x. Q x → P x) l
given P Q [] a = tt
given P Q (x ∷ l) a = (λ _. a.0, given P Q l a.1)

-- a and b differ, in both orders, so that a search finds either
pub record Differ (a b : ℕ) : Type 0 where
  pub ab : a ≢ b
  pub ba : b ≢ a

-- a statement about every number below n': at the numbers of `new`, at some below n, and at the others below n
pub over : (P : ℕ → Type 0) (n n' : ℕ) (new l : List ℕ) → ((x : ℕ) → x < n' → None x new → x < n) → All P new → All P l
    → ((x : ℕ) → x < n → None x l → P x) → {x : ℕ} → x < n' → P x
over P n n' new l still a b f {x} h = each {P = λ x. x < n' → P x} new (given P (λ x. x < n') new a)
    (λ x k h. each {P = λ x. x < n → P x} l (given P (λ x. x < n) l b) (λ x k h. f x h k) x (still x h k)) x h
