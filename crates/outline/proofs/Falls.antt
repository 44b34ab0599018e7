-- Tests along 0, 1, .. n and where they fall: a test that falls at most once and passes at 0 passes, wherever it
-- passes, all the way down to 0 or all the way up to n.
-- Assumes nothing.
use Rattle.std.specs.Prelude.{◌≡◌, refl, ◌⊎◌, Bool, not, ◌&&◌, ℕ, zero, suc, ◌+◌, ◌<◌, ◌≤◌, T}
use Rattle.std.proofs.Common.{subst, inl, inr, arith, T_not}
use Rattle.std.proofs.Math.Decide.{ℕ_discrete}
use Rattle.sums.specs.Bit.{bit}
use Rattle.sums.proofs.BitLaws.{test, and_both}
use Rattle.sums.specs.Bounded.{count}
use Rattle.sums.proofs.BoundedLaws.{count-sole}
use Rattle.outline.proofs.OutlineLaws.{falls}

-- a test that passes at a and fails at b, later, falls in between
pub fall-between : (t : ℕ → Bool) (a b : ℕ) → a ≤ b → T (t a) → T (not (t b)) → (k : ℕ) × (a ≤ k) × (k < b) × T (falls t k)
fall-between t a zero l p q = absurd (T_not (t 0) q (subst (λ (i : ℕ). T (t i)) (zero-only a l) p))
  where
    zero-only : (a : ℕ) → a ≤ 0 → a ≡ 0
    zero-only a l = omega arith
fall-between t a (suc b) l p q = go (ℕ_discrete a (suc b)) (test (t b)) (fall-between t a b)
  where
    go : Dec (a ≡ suc b) → T (t b) ⊎ T (not (t b)) → (a ≤ b → T (t a) → T (not (t b)) → (k : ℕ) × (a ≤ k) × (k < b) × T (falls t k))
        → (k : ℕ) × (a ≤ k) × (k < suc b) × T (falls t k)
    go (yes e) s ih = absurd (T_not (t (suc b)) q (subst (λ (i : ℕ). T (t i)) e p))
    go (no d) (inl s) ih = (b, (omega arith), (omega arith), and_both (t b) (not (t (suc b))) s q)
    go (no d) (inr s) ih = let r = ih (omega arith) p s in (r.0, r.1, (let m = r.2 in omega arith), r.3)

module _ (n : ℕ) (t : ℕ → Bool) (once : count n (falls t) ≤ 1) where
  -- it does not fall twice
  pub no-second-fall : (a b c d : ℕ) → a ≤ b → b ≤ c → c ≤ d → d ≤ n → T (t a) → T (not (t b)) → T (t c) → T (not (t d)) → ⊥
  no-second-fall a b c d u v w l p q r s =
      let i = fall-between t a b u p q in
      let j = fall-between t c d w r s in
      let m = i.2 in let o = j.1 in let o' = j.2 in
      let e = count-sole n (falls t) i.0 j.0 once (omega arith) (omega arith) i.3 j.3 in
      omega arith

-- two tests, of which at each step one falls as the other does, up to the change of "fails and passes"
pub falls-telescope : (n : ℕ) (f g : ℕ → Bool)
    → ((k : ℕ) → bit (falls f k) + bit (not (f k) && g k) ≡ bit (falls g k) + bit (not (f (suc k)) && g (suc k)))
    → count n (falls f) + bit (not (f 0) && g 0) ≡ count n (falls g) + bit (not (f n) && g n)
unfolding count
falls-telescope zero f g each = refl
falls-telescope (suc n) f g each = let i = falls-telescope n f g each in let e = each n in omega arith

pub falls-same : (n : ℕ) (f g : ℕ → Bool)
    → ((k : ℕ) → bit (falls f k) + bit (not (f k) && g k) ≡ bit (falls g k) + bit (not (f (suc k)) && g (suc k)))
    → f n ≡ f 0 → g n ≡ g 0 → count n (falls f) ≡ count n (falls g)
falls-same n f g each p q =
    let i = falls-telescope n f g each in
    let e : bit (not (f n) && g n) ≡ bit (not (f 0) && g 0) = rw (p, q) refl in
    omega arith
