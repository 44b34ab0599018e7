-- A walk among the numbers below n meets one twice and goes round. Assumes nothing.
use Rattle.std.specs.Prelude.{◌≡◌, not, ℕ, zero, suc, ◌+◌, ◌-◌, ◌<◌, ◌≤◌, T, eqb}
use Rattle.std.proofs.Common.{sym, ◌∙◌, ap, subst, le_refl, arith, eqb→eq}
use Rattle.std.proofs.Math.Decide.{dec_lt}
use Rattle.sums.proofs.BitLaws.{sure, eq_test}
use Rattle.sums.specs.Bounded.{any_below}
use Rattle.sums.proofs.BoundedLaws.{any-below→, any-below←, none-below→}
use Rattle.sums.specs.Iterate.{iter}
use Rattle.sums.proofs.IterateLaws.{iter-add}
use Rattle.sums.specs.Listed.{pigeonhole}

-- some two of the first n + 1 are one
pub met-twice : (n : ℕ) (g : ℕ → ℕ) → ((k : ℕ) → k ≤ n → g k < n) → (j : ℕ) × (i : ℕ) × (i < j) × (j ≤ n) × (g i ≡ g j)
met-twice n g low =
    let r = any-below→ (suc n) (λ j. any_below j (λ i. eqb (g i) (g j))) (sure (any_below (suc n) (λ j. any_below j (λ i. eqb (g i) (g j))))
    (λ none. let h = pigeonhole n (suc n) g (record { below = λ k l. low k (omega arith); once = λ j k l m e. apart none j k l m e (dec_lt j k) (dec_lt k j) }) in omega arith)) in
    let s = any-below→ r.0 (λ i. eqb (g i) (g r.0)) r.2 in
    (r.0, s.0, s.1, (let l = r.1 in omega arith), eqb→eq (g s.0) (g r.0) s.2)
  where
    differ : T (not (any_below (suc n) (λ j. any_below j (λ i. eqb (g i) (g j))))) → (i j : ℕ) → i < j → j < suc n → g i ≡ g j → ⊥
    differ none i j l m e = none-below→ (suc n) (λ j. any_below j (λ i. eqb (g i) (g j))) none j m (any-below← j (λ i. eqb (g i) (g j)) i l (eq_test e))

    apart : T (not (any_below (suc n) (λ j. any_below j (λ i. eqb (g i) (g j))))) → (j k : ℕ) → j < suc n → k < suc n
        → g j ≡ g k → Dec (j < k) → Dec (k < j) → j ≡ k
    apart none j k l m e (yes a) d = absurd (differ none j k a m e)
    apart none j k l m e (no a) (yes b) = absurd (differ none k j b l (sym e))
    apart none j k l m e (no a) (no b) = omega arith

-- what holds at the first n + 1 places of a walk among the numbers below n holds at each
pub for-ever : (n : ℕ) (f : ℕ → ℕ) (a : ℕ) (P : ℕ → Type 0) → ((k : ℕ) → k ≤ n → iter k f a < n)
    → ((k : ℕ) → k < n → P (iter k f a)) → (k : ℕ) → P (iter k f a)
for-ever n f a P low first k = go (met-twice n (λ k. iter k f a) low) (suc k) k (le_refl (suc k))
  where
    go : (j : ℕ) × (i : ℕ) × (i < j) × (j ≤ n) × (iter i f a ≡ iter j f a) → (m k : ℕ) → k < m → P (iter k f a)
    go r zero k l = absurd (omega arith)
    go (j, i, l, b, e) (suc m) k h = at (go (j, i, l, b, e) m) (dec_lt k j)
      where
        at : ((k : ℕ) → k < m → P (iter k f a)) → Dec (k < j) → P (iter k f a)
        at ih (yes c) = first k (omega arith)
        at ih (no c) =
            let d : k ≡ j + (k - j) = omega arith in
            subst P (sym (ap (λ (x : ℕ). iter x f a) d ∙ iter-add j (k - j) f a ∙ ap (λ (x : ℕ). iter (k - j) f x) (sym e) ∙ sym (iter-add i (k - j) f a))) (ih (i + (k - j)) (omega arith))
