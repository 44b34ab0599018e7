-- A statement about every number, shown at those of a short list one by one and at the others at once: `each`. Assumes nothing.
use Rattle.std.specs.Prelude.{◌≡◌, ◌≢◌, ◌⊎◌, List, [], ◌∷◌, ℕ}
use Rattle.std.proofs.Math.Path.{subst⁻¹}
use Rattle.std.proofs.Common.{inl, inr}
use Rattle.std.proofs.Math.Decide.{ℕ_discrete}

-- P holds at each number of the list
abbrev pub All : (ℕ → Type 0) → List ℕ → Type 0
All P [] = Unit {0}
All P (a ∷ l) = P a × All P l

-- x is none of l
abbrev pub None : ℕ → List ℕ → Type 0
None x l = All (λ a. x ≢ a) l

-- x is one of l
abbrev pub Some : ℕ → List ℕ → Type 0
Some x [] = ⊥
Some x (a ∷ l) = (x ≡ a) ⊎ Some x l

-- no number stands twice in the list
abbrev pub Distinct : List ℕ → Type 0
Distinct [] = Unit {0}
Distinct (a ∷ l) = None a l × Distinct l

-- either way, at one number
pub at-or : (P : ℕ → Type 0) {x a : ℕ} → Dec (x ≡ a) → P a → (x ≢ a → P x) → P x
at-or P (yes q) p f = subst⁻¹ P q p
at-or P (no n) p f = f n

pub each : {P : ℕ → Type 0} (l : List ℕ) → All P l → ((x : ℕ) → None x l → P x) → (x : ℕ) → P x
each {P} l p f x = go l p (f x)
  where
    go : (l : List ℕ) → All P l → (None x l → P x) → P x
    go [] p f = f tt
    go (a ∷ l) p f = at-or P (ℕ_discrete x a) p.0 (λ n. go l p.1 (λ o. f (n, o)))

-- the same as a choice
pub some_or_none : (x : ℕ) (l : List ℕ) → Some x l ⊎ None x l
some_or_none x [] = inr tt
some_or_none x (a ∷ l) = go (ℕ_discrete x a) (some_or_none x l)
  where
    go : Dec (x ≡ a) → Some x l ⊎ None x l → Some x (a ∷ l) ⊎ None x (a ∷ l)
    go (yes e) r = inl (inl e)
    go (no n) (inl s) = inl (inr s)
    go (no n) (inr o) = inr (n, o)

-- what holds at each of the list holds at one of it
pub all-at : (P : ℕ → Type 0) (l : List ℕ) → All P l → (x : ℕ) → Some x l → P x
all-at P [] p x s = absurd s
all-at P (a ∷ l) p x (inl e) = subst⁻¹ P e p.0
all-at P (a ∷ l) p x (inr s) = all-at P l p.1 x s

pub all_map : (P Q : ℕ → Type 0) → ((x : ℕ) → P x → Q x) → (l : List ℕ) → All P l → All Q l
all_map P Q f [] p = tt
all_map P Q f (a ∷ l) p = (f a p.0, all_map P Q f l p.1)
