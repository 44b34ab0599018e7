-- What `all` answers over a range, said by `all_below`. Assumes nothing.
use Rattle.std.proofs.Common.{◌≡◌, ℕ, zero, suc, ◌+◌, ◌-◌, ◌<◌, ◌≤◌, Bool, T, arith, sym, subst}
use Rattle.std.proofs.Math.Decide.{ℕ_discrete, dec_lt}
use Rattle.std.specs.List.{list_all, range_with_len}
use Rattle.sums.specs.Bit.{test-ext}
use Rattle.sums.specs.Bounded.{all_below}
use Rattle.sums.proofs.BitLaws.{and_left, and_right, and_both}
use Rattle.sums.proofs.BoundedLaws.{all-below→, all-below←}

-- all of the k numbers from a on pass
list-all→ : (p : ℕ → Bool) (k a : ℕ) → T (list_all p (range_with_len a k)) → (i : ℕ) → a ≤ i → i < a + k → T (p i)
list-all→ p zero a t i l u = absurd (omega arith)
list-all→ p (suc k) a t i l u =
    go (ℕ_discrete a i) (λ l'. list-all→ p k (a + 1) (and_right (p a) (list_all p (range_with_len (a + 1) k)) t) i l' (omega arith))
  where
    go : Dec (a ≡ i) → (a + 1 ≤ i → T (p i)) → T (p i)
    go (yes e) more = subst (λ (j : ℕ). T (p j)) e (and_left (p a) (list_all p (range_with_len (a + 1) k)) t)
    go (no n) more = more (omega arith)

list-all← : (p : ℕ → Bool) (k a : ℕ) → ((i : ℕ) → a ≤ i → i < a + k → T (p i)) → T (list_all p (range_with_len a k))
list-all← p zero a h = tt
list-all← p (suc k) a h =
    and_both (p a) (list_all p (range_with_len (a + 1) k)) (h a (omega arith) (omega arith)) (list-all← p k (a + 1) (λ i l u. h i (omega arith) (omega arith)))

-- a test of all numbers from a on says that all below n pass, where those below a do
pub all-in_range : (p q : ℕ → Bool) (a n : ℕ) → ((i : ℕ) → i < a → T (q i)) → ((i : ℕ) → a ≤ i → p i ≡ q i) → list_all p (range_with_len a (n - a)) ≡ all_below n q
all-in_range p q a n before same = test-ext (list_all p (range_with_len a (n - a))) (all_below n q) there back
  where
    there : T (list_all p (range_with_len a (n - a))) → T (all_below n q)
    there t = all-below← n q (λ i l. go i l (dec_lt i a))
      where
        go : (i : ℕ) → i < n → Dec (i < a) → T (q i)
        go i l (yes u) = before i u
        go i l (no u) = subst T (same i (omega arith)) (list-all→ p (n - a) a t i (omega arith) (omega arith))

    back : T (all_below n q) → T (list_all p (range_with_len a (n - a)))
    back t = list-all← p (n - a) a (λ i l u. subst T (sym (same i l)) (all-below→ n q t i (omega arith)))
