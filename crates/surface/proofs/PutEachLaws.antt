-- Laws of specs/PutEach.antt.
use Rattle.std.specs.Prelude.{Bool, ◌≢◌, ◌≡◌, T}
use Rattle.std.proofs.Math.Bool.{true, false, cond}
use Rattle.std.proofs.lemmas.Bool.{false≢true}
use Rattle.std.proofs.Math.Path.{refl, ap}
use Rattle.std.proofs.Common.{sym, ◌∙◌}
use Prim.Native.Nat.{ℕ, zero, suc, ◌<◌, ◌≤◌}
use Rattle.std.proofs.Math.Decide.{ℕ_discrete}
use native.Mathlib.Omega.{arith}
use Rattle.sums.proofs.BitLaws.{from-true, is_true}
use Rattle.sums.specs.Put.{put}
use Rattle.sums.proofs.PutLaws.{put_same, put_other}
use Rattle.surface.specs.PutEach.{put_each}

module _ {A : Type 0} (value f : ℕ → A) where
  -- tests and places that agree
  pub put-each-ext : (p q : ℕ → Bool) (v w : ℕ → ℕ) (n : ℕ) → ((i : ℕ) → i < n → p i ≡ q i) → ((i : ℕ) → i < n → T (p i) → v i ≡ w i)
      → put_each p v value f n ≡ put_each q w value f n
  unfolding put_each
  put-each-ext p q v w zero a b = refl
  put-each-ext p q v w (suc n) a b =
      rw (put-each-ext p q v w n (λ i l. a i (omega arith)) (λ i l. b i (omega arith)), ← a n (omega arith)) (go (p n) refl)
    where
      go : (t : Bool) → p n ≡ t
          → cond t (put (put_each q w value f n) (v n) (value n)) (put_each q w value f n)
          ≡ cond t (put (put_each q w value f n) (w n) (value n)) (put_each q w value f n)
      go true e = ap (λ (u : ℕ). put (put_each q w value f n) u (value n)) (b n (omega arith) (from-true e))
      go false e = refl

  module _ (p : ℕ → Bool) (v : ℕ → ℕ) where
    -- one more
    pub put-each-next : (n : ℕ) → p n ≡ true → put_each p v value f (suc n) ≡ put (put_each p v value f n) (v n) (value n)
    unfolding put_each
    put-each-next n e = rw e refl

    -- none passes from m on
    pub put-each-stop : (m n : ℕ) → m ≤ n → ((i : ℕ) → m ≤ i → i < n → p i ≡ false) → put_each p v value f n ≡ put_each p v value f m
    unfolding put_each
    put-each-stop m zero l a = let e : m ≡ 0 = omega arith in rw e refl
    put-each-stop m (suc n) l a = go (ℕ_discrete m (suc n)) (λ k. put-each-stop m n k (λ i x y. a i x (omega arith)))
      where
        go : Dec (m ≡ suc n) → (m ≤ n → put_each p v value f n ≡ put_each p v value f m)
            → cond (p n) (put (put_each p v value f n) (v n) (value n)) (put_each p v value f n) ≡ put_each p v value f m
        go (yes e) rest = rw e refl
        go (no d) rest = rw (a n (omega arith) (omega arith)) (rest (omega arith))

    -- ---- place by place
    -- where none puts anything
    pub put-each-kept : (u n : ℕ) → ((i : ℕ) → i < n → T (p i) → v i ≢ u) → put_each p v value f n u ≡ f u
    unfolding put_each
    put-each-kept u zero a = refl
    put-each-kept u (suc n) a = go (p n) refl (put-each-kept u n (λ i l. a i (omega arith)))
      where
        go : (t : Bool) → p n ≡ t → put_each p v value f n u ≡ f u
            → cond t (put (put_each p v value f n) (v n) (value n)) (put_each p v value f n) u ≡ f u
        go true e rest = put_other (put_each p v value f n) (v n) (value n) u (λ q. a n (omega arith) (from-true e) (sym q)) ∙ rest
        go false e rest = rest

    -- where the last one is i
    pub put-each-last : (i n : ℕ) → i < n → T (p i) → ((j : ℕ) → i < j → j < n → T (p j) → v j ≢ v i)
        → put_each p v value f n (v i) ≡ value i
    unfolding put_each
    put-each-last i zero l t a = absurd (omega arith)
    put-each-last i (suc n) l t a = go (ℕ_discrete i n) (p n) refl (λ k. put-each-last i n k t (λ j x y. a j x (omega arith)))
      where
        go : Dec (i ≡ n) → (b : Bool) → p n ≡ b → (i < n → put_each p v value f n (v i) ≡ value i)
            → cond b (put (put_each p v value f n) (v n) (value n)) (put_each p v value f n) (v i) ≡ value i
        go (yes k) true e rest = rw k (put_same (put_each p v value f n) (v n) (value n))
        go (yes k) false e rest = absurd (false≢true (sym e ∙ ap p (sym k) ∙ is_true (p i) t))
        go (no d) true e rest =
            put_other (put_each p v value f n) (v n) (value n) (v i) (λ q. a n (omega arith) (omega arith) (from-true e) (sym q)) ∙ rest (omega arith)
        go (no d) false e rest = rest (omega arith)
