-- A list that is gone through until it has to stop: `s n` is the state after n of its points, and a full one stays as it is. What the
-- points store that are reached and pass a test (`reaches`), beside what is stored afterwards from the answers of the first m of them: all
-- of it, or all but the store of the point at which the list stopped. Assumes nothing.
use Rattle.std.specs.Prelude.{Bool, true, false, not, ◌&&◌, ◌≡◌, refl, ℕ, zero, suc, ◌<◌, ◌≤◌, T, ltb}
use Rattle.std.proofs.lemmas.Bool.{false≢true}
use Rattle.std.proofs.Common.{sym, ◌∙◌, arith, lt-ltb, le-ltb}
use Rattle.std.proofs.Math.Path.{ap}
use Rattle.std.proofs.Math.Decide.{ℕ_discrete}
use Rattle.sums.specs.Put.{put}
use Rattle.surface.specs.PutEach.{put_each}
use Rattle.surface.proofs.PutEachLaws.{put-each-ext, put-each-next, put-each-stop}

-- ---- a point's two tests
-- one that was reached and has its answer
both-tests : (c : Bool) {x l q : Bool} → x ≡ false → l ≡ true → q ≡ (c && l) → (not x && c) ≡ q
both-tests true a b e = rw (a, e, b) refl
both-tests false a b e = rw (a, e) refl

-- one that has none
no_answer : (c : Bool) {l q : Bool} → l ≡ false → q ≡ (c && l) → q ≡ false
no_answer true b e = e ∙ b
no_answer false b e = e

not-reached : {x : Bool} (c : Bool) → x ≡ true → (not x && c) ≡ false
not-reached c a = rw a refl

module _ {S : Type 0} (full : S → Bool) (s : ℕ → S) (stays : (n : ℕ) → full (s n) ≡ true → s (suc n) ≡ s n) where
  -- full after m points: nothing changes any more
  pub stays-to : (m n : ℕ) → m ≤ n → full (s m) ≡ true → s n ≡ s m
  stays-to m zero l f = let e : m ≡ 0 = omega arith in rw e refl
  stays-to m (suc n) l f = go (ℕ_discrete m (suc n)) (λ k. stays-to m n k f)
    where
      go : Dec (m ≡ suc n) → (m ≤ n → s n ≡ s m) → s (suc n) ≡ s m
      go (yes e) rest = rw e refl
      go (no d) rest = let r = rest (omega arith) in stays n (ap full r ∙ f) ∙ r

  pub whole_to : (m n : ℕ) → m ≤ n → full (s n) ≡ false → full (s m) ≡ false
  whole_to m n l f = go (full (s m)) refl
    where
      go : (b : Bool) → full (s m) ≡ b → full (s m) ≡ false
      go true q = absurd (false≢true (sym f ∙ ap full (stays-to m n l q) ∙ q))
      go false q = q

  -- ---- it stopped at point a, one of the first n
  pub record StopsAt (n a : ℕ) : Type 0 where
    pub earlier : a < n
    pub made : full (s a) ≡ false
    pub stopped : full (s (suc a)) ≡ true

  pub stops_at : full (s 0) ≡ false → (n : ℕ) → full (s n) ≡ true → (a : ℕ) × StopsAt n a
  stops_at o zero f = absurd (false≢true (sym o ∙ f))
  stops_at o (suc n) f = go (full (s n)) refl (stops_at o n)
    where
      go : (b : Bool) → full (s n) ≡ b → (full (s n) ≡ true → (a : ℕ) × StopsAt n a) → (a : ℕ) × StopsAt (suc n) a
      go false q rest = (n, record { earlier = omega arith; made = q; stopped = f })
      go true q rest =
          let r = rest q in
          (r.0, record { earlier = (let k = r.1.earlier in omega arith); made = r.1.made; stopped = r.1.stopped })

  -- ---- what is stored: c is the points' own test; q and w are the test and the place by the answers
  module _ {A : Type 0} (value h : ℕ → A) (c q : ℕ → Bool) (v w : ℕ → ℕ) (n m : ℕ)
      (Q : (i : ℕ) → i < n → q i ≡ (c i && ltb i m)) (W : (i : ℕ) → i < n → T (q i) → w i ≡ v i) where
    abbrev pub reaches : ℕ → Bool
    reaches i = not (full (s i)) && c i

    agree : (k : ℕ) → k ≤ n → k ≤ m → ((i : ℕ) → i < k → full (s i) ≡ false) → put_each q w value h k ≡ put_each reaches v value h k
    agree k a b f =
        put-each-ext value h q reaches w v k
        (λ i l. sym (both-tests (c i) (f i l) (lt-ltb i m (omega arith)) (Q i (omega arith)))) (λ i l. W i (omega arith))

    -- it did not stop
    pub stage-whole : full (s n) ≡ false → m ≡ n → put_each reaches v value h n ≡ put_each q w value h n
    stage-whole f e = sym (agree n (omega arith) (omega arith) (λ i l. whole_to i n (omega arith) f))

    -- no point from m on has an answer
    unanswered : m ≤ n → put_each q w value h n ≡ put_each q w value h m
    unanswered a = put-each-stop value h q w m n a (λ i x y. no_answer (c i) (le-ltb i m x) (Q i y))

    -- no point has an answer
    pub stage-none : m ≡ 0 → put_each q w value h n ≡ h
    unfolding put_each
    stage-none e = unanswered (omega arith) ∙ ap (put_each q w value h) e

    -- it stopped at point m
    pub stage-stopped : StopsAt n m → c m ≡ true → put_each reaches v value h n ≡ put (put_each q w value h n) (v m) (value m)
    stage-stopped Z t =
        let k = Z.earlier in
        put-each-stop value h reaches v (suc m) n k (λ i x y. not-reached (c i) (ap full (stays-to (suc m) i x Z.stopped) ∙ Z.stopped))
        ∙ put-each-next value h reaches v m (rw Z.made t)
        ∙ ap (λ (f : ℕ → A). put f (v m) (value m))
        (sym (unanswered (omega arith) ∙ agree m (omega arith) (omega arith) (λ i l. whole_to i m (omega arith) Z.made)))
