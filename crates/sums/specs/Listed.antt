-- Finite lists of different numbers, as functions: `Listed n h p` says that p 0 … p (h - 1) are different numbers below
-- n, and `On h p i` that i is one of them.
-- Lists that are written out, two lists joined, and the pigeonhole. Assumes nothing.
use Rattle.std.specs.Prelude.{◌≡◌, refl, ◌≢◌, List, [], ◌∷◌, cond, ℕ, zero, suc, ◌+◌, ◌-◌, ◌<◌, ◌≤◌, ltb, length, get_or}
use Rattle.std.proofs.Common.{sym, ◌∙◌, ap, inl, inr, le_refl, le_trans, arith, lt-ltb, le-ltb}
use Rattle.std.proofs.Math.Decide.{ℕ_discrete, dec_lt}

-- A list of h different indices below n: p 0 … p (h - 1)
pub record Listed (n h : ℕ) (p : ℕ → ℕ) : Type 0 where
  pub below : (k : ℕ) → k < h → p k < n
  pub once : (j k : ℕ) → j < h → k < h → p j ≡ p k → j ≡ k

-- ---- the pigeonhole: no more than n different numbers are below n
pub pigeonhole : (n h : ℕ) (p : ℕ → ℕ) → Listed n h p → h ≤ n
pigeonhole n zero p ls = omega arith
pigeonhole zero (suc h) p ls = let z = ls.below zero (omega arith) in omega arith
pigeonhole (suc n) (suc h) p ls =
    let r = pigeonhole n h q (record { below = λ k l. low k l (ℕ_discrete (p k) n); once = λ j k l m. apart j k l m (ℕ_discrete (p j) n) (ℕ_discrete (p k) n) }) in omega arith
  where
    -- the last number takes the place of n
    pick : ℕ → {m : ℕ} → Dec (m ≡ n) → ℕ
    pick m (yes e) = p h
    pick m (no d) = m

    q : ℕ → ℕ
    q k = pick (p k) (ℕ_discrete (p k) n)

    low : (k : ℕ) → k < h → (d : Dec (p k ≡ n)) → pick (p k) d < n
    low k l (yes e) =
        let b = ls.below h (le_refl (suc h)) in
        let other : p h ≢ n = λ z. let c = ls.once k h (omega arith) (le_refl (suc h)) (e ∙ sym z) in omega arith in
        omega arith
    low k l (no d) = let b = ls.below k (omega arith) in omega arith

    -- p h is none of the numbers before it
    last : (k : ℕ) → k < h → p h ≢ p k
    last k l e = let c = ls.once h k (le_refl (suc h)) (omega arith) e in omega arith

    apart : (j k : ℕ) → j < h → k < h → (d : Dec (p j ≡ n)) (e : Dec (p k ≡ n)) → pick (p j) d ≡ pick (p k) e → j ≡ k
    apart j k l m (yes d) (yes e) r = ls.once j k (omega arith) (omega arith) (d ∙ sym e)
    apart j k l m (yes d) (no e) r = absurd (last k m r)
    apart j k l m (no d) (yes e) r = absurd (last j l (sym r))
    apart j k l m (no d) (no e) r = ls.once j k (omega arith) (omega arith) r
