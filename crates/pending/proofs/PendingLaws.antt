-- The pending list: its length, what a store past its end leaves alone, and what a push does to a row that holds it. Assumes nothing.
use Rattle.std.specs.Prelude.{Bool, true, false, ◌||◌, eqb, List, ◌∷◌, ◌≡◌, refl, ℕ, zero, suc, ◌+◌, ◌-◌, ◌≤◌, ◌<◌, length, get_or, set, take}
use Rattle.std.proofs.Math.Path.{sym}
use Rattle.std.proofs.Common.{◌∙◌, ap, ap₂, add-one, arith, length-set, get_or-set_same, get_or-set_other}
use Rattle.std.specs.List.{list_any}
use Rattle.std.proofs.lemmas.List.Folds.{list_any_more}
use Rattle.std.proofs.Math.Decide.{dec_lt, ℕ_discrete}
use borrow.Author.Tests.{ne_eqb}
use Rattle.pending.specs.Pending.{pending_of, contains, push_if_not_contained, Holds}

-- ---- rows
pub pending-length : (row : List ℕ) (n : ℕ) → length (pending_of row n) ≡ n
unfolding pending_of
pending-length row zero = refl
pending-length row (suc n) = ap suc (pending-length row n)

-- the last entry and the rest
pub pending-last : (row : List ℕ) (n : ℕ) → 0 < n → pending_of row n ≡ get_or row (n - 1) 0 ∷ pending_of row (n - 1)
unfolding pending_of
pending-last row zero l = absurd (omega arith)
pending-last row (suc n) l = let e : suc n - 1 ≡ n = omega arith in rw e refl

-- a store past the entries
pub pending-set : (row : List ℕ) (n i x : ℕ) → n ≤ i → pending_of (set row i x) n ≡ pending_of row n
unfolding pending_of
pending-set row zero i x l = refl
pending-set row (suc n) i x l = ap₂ (λ (a : ℕ) (b : List ℕ). a ∷ b) (get_or-set_other row i n x 0 (omega arith)) (pending-set row n i x (omega arith))

pub pending-push : (row : List ℕ) (n x : ℕ) → n < length row → pending_of (set row n x) (n + 1) ≡ x ∷ pending_of row n
unfolding pending_of
pending-push row n x l = rw add-one (ap₂ (λ (a : ℕ) (b : List ℕ). a ∷ b) (get_or-set_same row n x 0 l) (pending-set row n n x (omega arith)))

-- ---- rows that hold a list
pub holds : (row : List ℕ) (n : ℕ) → n ≤ length row → Holds row n (pending_of row n)
holds row n l = record { fits = λ _. refl; over = λ k. absurd (omega arith) }

module _ {row : List ℕ} {n : ℕ} {l : List ℕ} (h : Holds row n l) where
  pub holds-length : n ≤ length row → length l ≡ n
  holds-length k = ap length (sym (h.fits k)) ∙ pending-length row n

  -- the list fits the row exactly where its length says so
  pub holds_fits : length l ≤ length row → n ≤ length row
  holds_fits k = go (dec_lt (length row) n)
    where
      go : Dec (length row < n) → n ≤ length row
      go (yes o) = let q = h.over o in absurd (omega arith)
      go (no o) = omega arith

  pub push-fits : (x : ℕ) → n < length row → Holds (set row n x) (n + 1) (x ∷ l)
  push-fits x k = record {
    fits = λ _. pending-push row n x k ∙ ap (λ (l : List ℕ). x ∷ l) (h.fits (omega arith));
    over = λ o. let q = length-set row n x in absurd (omega arith);
  }

  -- no room is left
  pub push-over : (x : ℕ) → n ≡ length row → Holds row (n + 1) (x ∷ l)
  push-over x k = record { fits = λ m. absurd (omega arith); over = λ _. let q = holds-length (omega arith) in omega arith }

  -- no room was left before
  pub push-past : {l' : List ℕ} → length l ≤ length l' → length row < n → Holds row n l'
  push-past m k = record { fits = λ o. absurd (omega arith); over = λ _. let q = h.over k in omega arith }

-- ---- `push_if_not_contained`
pub push-contained : (x : ℕ) (l : List ℕ) → contains x l ≡ true → push_if_not_contained x l ≡ l
unfolding push_if_not_contained
push-contained x l e = rw e refl

pub push-missing : (x : ℕ) (l : List ℕ) → contains x l ≡ false → push_if_not_contained x l ≡ x ∷ l
unfolding push_if_not_contained
push-missing x l e = rw e refl

-- at most one entry more, and none less
pub push-length : (x : ℕ) (l : List ℕ) → (length l ≤ length (push_if_not_contained x l)) × (length (push_if_not_contained x l) ≤ length l + 1)
push-length x l = go (contains x l) refl
  where
    go : (t : Bool) → contains x l ≡ t → (length l ≤ length (push_if_not_contained x l)) × (length (push_if_not_contained x l) ≤ length l + 1)
    go true e = rw (push-contained x l e) (omega arith, omega arith)
    go false e = rw (push-missing x l e) (omega arith, omega arith)

module _ {row : List ℕ} {n : ℕ} {l : List ℕ} (h : Holds row n l) (k : n ≤ length row) (x : ℕ) where
  pub pushed-contained : contains x (pending_of row n) ≡ true → Holds row n (push_if_not_contained x l)
  pushed-contained e = rw (push-contained x l (rw (h.fits k) at e)) h

  pub pushed-missing : contains x (pending_of row n) ≡ false → {row' : List ℕ} {n' : ℕ} → Holds row' n' (x ∷ l)
      → Holds row' n' (push_if_not_contained x l)
  pushed-missing e h' = rw (push-missing x l (rw (h.fits k) at e)) h'

-- ---- `contains`, as a test of the row's first entries
or_swapped : (a b : Bool) → (a || b) ≡ (b || a)
or_swapped true true = refl
or_swapped true false = refl
or_swapped false true = refl
or_swapped false false = refl

eqb_swapped : (x y : ℕ) → eqb y x ≡ eqb x y
eqb_swapped x y = go (ℕ_discrete y x)
  where
    go : Dec (y ≡ x) → eqb y x ≡ eqb x y
    go (yes e) = rw e refl
    go (no d) = ne_eqb y x d ∙ sym (ne_eqb x y (λ e. d (sym e)))

pub contains-test : (x n : ℕ) (row : List ℕ) → n ≤ length row → list_any (λ y. eqb y x) (take n row) ≡ contains x (pending_of row n)
unfolding contains pending_of
contains-test x zero row l = refl
contains-test x (suc n) row l =
    let e : suc n ≡ n + 1 = omega arith in
    ap (λ (m : ℕ). list_any (λ y. eqb y x) (take m row)) e
    ∙ list_any_more (λ y. eqb y x) row n 0 (omega arith)
    ∙ or_swapped (list_any (λ y. eqb y x) (take n row)) (eqb (get_or row n 0) x)
    ∙ ap₂ (λ (a b : Bool). a || b) (eqb_swapped x (get_or row n 0)) (contains-test x n row (omega arith))
