-- Laws of specs/Insert.antt.
use Rattle.std.specs.Prelude.{cond, ◌≡◌, refl, ◌⊎◌, ltb, eqb}
use Rattle.std.proofs.Common.{inl, inr, arith}
use Prim.Native.Nat.{ℕ, suc, zero, ◌-◌, ◌<◌, ◌≤◌}
use Rattle.std.proofs.Math.Decide.{dec_lt}
use borrow.Author.Tests.{lt-ltb, le-ltb, eq-eqb, ne_eqb}
use Rattle.line.specs.Insert.{insert_at, Spot, below, here, above}

module _ (f : ℕ → ℕ) (k x : ℕ) where
  pub insert-below : {i : ℕ} → i < k → insert_at f k x i ≡ f i
  unfolding insert_at
  insert-below {i} l = go i l
    where
      go : (i : ℕ) → i < k → insert_at f k x i ≡ f i
      go zero l = rw (ne_eqb 0 k (omega arith))
      go (suc i) l = rw (lt-ltb (suc i) k l)

  pub insert-here : {i : ℕ} → i ≡ k → insert_at f k x i ≡ x
  unfolding insert_at
  insert-here {i} e = go i e
    where
      go : (i : ℕ) → i ≡ k → insert_at f k x i ≡ x
      go zero e = rw (eq-eqb 0 k e)
      go (suc i) e = rw (le-ltb (suc i) k (omega arith), eq-eqb (suc i) k e)

  pub insert-above : {i : ℕ} → k ≤ i → insert_at f k x (suc i) ≡ f i
  unfolding insert_at
  insert-above {i} l = rw (le-ltb (suc i) k (omega arith), ne_eqb (suc i) k (omega arith))

pub spot : (k i : ℕ) → Spot k i
spot k i = go i (dec_lt i k)
  where
    go : (i : ℕ) → Dec (i < k) → Spot k i
    go i (yes l) = below l
    go zero (no n) = let e : 0 ≡ k = omega arith in here e
    go (suc i) (no n) = on (dec_lt i k)
      where
        on : Dec (i < k) → Spot k (suc i)
        on (yes l) = let e : suc i ≡ k = omega arith in here e
        on (no m) = let l : k ≤ i = omega arith in above l
