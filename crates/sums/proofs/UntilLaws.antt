-- Laws of specs/Until.antt.
use Rattle.std.specs.Prelude.{◌≡◌, Bool}
use Rattle.std.proofs.Math.Path.{refl, sym, ap}
use Rattle.std.proofs.Common.{◌∙◌, subst, suc-add, arith}
use Rattle.std.proofs.Math.Bool.{true, false}
use Rattle.std.proofs.lemmas.Bool.{false≢true}
use Prim.Native.Nat.{ℕ, zero, suc, ◌+◌, ◌<◌}
use Rattle.sums.specs.Until.{when, until}

module _ {S : Type 0} (done : S → Bool) (f : S → S) where
  pub until-done : (n : ℕ) (s : S) → done s ≡ true → until done f n s ≡ s
  unfolding until when
  until-done zero s e = refl
  until-done (suc n) s e = ap (λ (t : Bool). when t (until done f n) f s) e

  pub until-next : (n : ℕ) (s : S) → done s ≡ false → until done f (suc n) s ≡ until done f n (f s)
  unfolding until when
  until-next n s e = ap (λ (t : Bool). when t (until done f n) f s) e

  pub until-more : (n m : ℕ) (s : S) → done (until done f n s) ≡ true → until done f (n + m) s ≡ until done f n s
  unfolding until
  until-more zero m s e = until-done (zero + m) s e
  until-more (suc n) m s e = go (until-more n m (f s)) (done s) refl
    where
      go : (done (until done f n (f s)) ≡ true → until done f (n + m) (f s) ≡ until done f n (f s)) → (t : Bool)
          → done s ≡ t → until done f (suc n + m) s ≡ until done f (suc n) s
      go rest true q = until-done (suc n + m) s q ∙ sym (until-done (suc n) s q)
      go rest false q =
          ap (λ (k : ℕ). until done f k s) (suc-add n m) ∙ until-next (n + m) s q
          ∙ rest (ap done (sym (until-next n s q)) ∙ e) ∙ sym (until-next n s q)

  -- each turn keeps I and lowers μ
  pub record Falls (I : S → Type 0) (μ : S → ℕ) : Type 0 where
    pub keeps : (s : S) → I s → done s ≡ false → I (f s)
    pub less : (s : S) → I s → done s ≡ false → μ (f s) < μ s

  -- a loop that began at s₀ with the fuel n, and is at s
  pub record Going (I : S → Type 0) (μ : S → ℕ) (n : ℕ) (s₀ s : S) : Type 0 where
    pub claim : I s
    pub fuel : μ s < n
    pub same : until done f n s ≡ until done f n s₀

  module _ {I : S → Type 0} {μ : S → ℕ} (falls : Falls I μ) where
    -- Q s r, of a state s of the loop and its end r
    pub until-ind : (Q : S → S → Type 0) → ((s : S) → I s → done s ≡ true → Q s s) → ((s r : S) → I s → done s ≡ false → Q (f s) r → Q s r)
        → (n : ℕ) (s : S) → I s → μ s < n → Q s (until done f n s)
    until-ind Q end turn zero s i l = absurd (omega arith)
    until-ind Q end turn (suc n) s i l = go (until-ind Q end turn n (f s)) (done s) refl
      where
        go : (I (f s) → μ (f s) < n → Q (f s) (until done f n (f s))) → (t : Bool) → done s ≡ t → Q s (until done f (suc n) s)
        go rest true e = subst (Q s) (sym (until-done (suc n) s e)) (end s i e)
        go rest false e = subst (Q s) (sym (until-next n s e)) (turn s (until done f n (f s)) i e (rest (falls.keeps s i e) (let h = falls.less s i e in omega arith)))

    pub until-ends : (n : ℕ) (s : S) → I s → μ s < n → done (until done f n s) ≡ true
    until-ends = until-ind (λ s r. done r ≡ true) (λ s i e. e) (λ s r i e q. q)

    pub until-fuel : (n m : ℕ) (s : S) → I s → μ s < n → μ s < m → until done f n s ≡ until done f m s
    until-fuel n m s i l k = sym (until-ind (λ s r. (m : ℕ) → μ s < m → until done f m s ≡ r) (λ s i e m k. until-done m s e) turn n s i l m k)
      where
        turn : (s r : S) → I s → done s ≡ false → ((m : ℕ) → μ (f s) < m → until done f m (f s) ≡ r) → (m : ℕ)
            → μ s < m → until done f m s ≡ r
        turn s r i e q zero k = absurd (omega arith)
        turn s r i e q (suc m) k = until-next m s e ∙ q m (let h = falls.less s i e in omega arith)

    pub until-turn : (n : ℕ) (s : S) → I s → μ s < n → done s ≡ false → until done f n s ≡ until done f n (f s)
    until-turn zero s i l e = absurd (omega arith)
    until-turn (suc n) s i l e =
        let h = falls.less s i e in
        until-next n s e ∙ until-fuel n (suc n) (f s) (falls.keeps s i e) (omega arith) (omega arith)

    -- the claim, which asks for no fuel
    pub until-keeps : (n : ℕ) (s : S) → I s → I (until done f n s)
    unfolding until
    until-keeps zero s i = i
    until-keeps (suc n) s i = go (λ i'. until-keeps n (f s) i') (done s) refl
      where
        go : (I (f s) → I (until done f n (f s))) → (t : Bool) → done s ≡ t → I (until done f (suc n) s)
        go rest true e = rw (until-done (suc n) s e) i
        go rest false e = rw (until-next n s e) (rest (falls.keeps s i e))

    -- ---- a loop of code, turn by turn
    pub going_start : (n : ℕ) (s : S) → I s → μ s < n → Going I μ n s s
    going_start n s i l = record { claim = i; fuel = l; same = refl }

    module _ {n : ℕ} {s₀ s : S} (g : Going I μ n s₀ s) where
      pub going-turn : done s ≡ false → Going I μ n s₀ (f s)
      going-turn e = record {
        claim = falls.keeps s g.claim e;
        fuel = let h = falls.less s g.claim e in let k = g.fuel in omega arith;
        same = sym (until-turn n s g.claim g.fuel e) ∙ g.same;
      }

      pub going_less : done s ≡ false → μ (f s) < μ s
      going_less e = falls.less s g.claim e

      pub going_end : done s ≡ true → s ≡ until done f n s₀
      going_end e = sym (until-done n s e) ∙ g.same

-- ---- two loops, with states that stay related
pub until-related : {S S' : Type 0} (done : S → Bool) (f : S → S) (done' : S' → Bool) (f' : S' → S')
    (R : S → S' → Type 0) → ((s : S) (t : S') → R s t → done s ≡ done' t)
    → ((s : S) (t : S') → R s t → done s ≡ false → R (f s) (f' t)) → (n : ℕ) (s : S) (t : S') → R s t
    → R (until done f n s) (until done' f' n t)
unfolding until when
until-related done f done' f' R test turn zero s t r = r
until-related {S} {S'} done f done' f' R test turn (suc n) s t r = go (until-related done f done' f' R test turn n) (done s) (done' t) refl (test s t r)
  where
    go : ((s : S) (t : S') → R s t → R (until done f n s) (until done' f' n t)) → (a b : Bool) → done s ≡ a → a ≡ b
        → R (when a (until done f n) f s) (when b (until done' f' n) f' t)
    go rest true true e q = r
    go rest true false e q = absurd (false≢true (sym q))
    go rest false true e q = absurd (false≢true q)
    go rest false false e q = rest (f s) (f' t) (turn s t r e)

-- one loop seen through a function h, where each turn commutes with it
pub until-map : {S S' : Type 0} (done : S → Bool) (f : S → S) (done' : S' → Bool) (f' : S' → S') (h : S → S')
    → ((s : S) → done s ≡ done' (h s))
    → ((s : S) → done s ≡ false → h (f s) ≡ f' (h s)) → (n : ℕ) (s : S) → h (until done f n s) ≡ until done' f' n (h s)
until-map done f done' f' h test turn n s = until-related done f done' f' (λ s t. h s ≡ t) (λ s t e. test s ∙ ap done' e) (λ s t e q. turn s q ∙ ap f' e) n s (h s) refl

-- a loop keeps what each of its turns keeps
pub until-holds : {S : Type 0} (P : S → Type 0) (done : S → Bool) (f : S → S) → ((s : S) → P s → P (f s))
    → (n : ℕ) (s : S) → P s → P (until done f n s)
unfolding until when
until-holds P done f keeps zero s h = h
until-holds {S} P done f keeps (suc n) s h = go (until-holds P done f keeps n) (done s)
  where
    go : ((s : S) → P s → P (until done f n s)) → (b : Bool) → P (when b (until done f n) f s)
    go ih true = h
    go ih false = ih (f s) (keeps s h)
