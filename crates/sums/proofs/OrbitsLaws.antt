-- Laws of specs/Orbits.antt.
use Rattle.std.specs.Prelude.{◌≡◌, refl, ◌≢◌, ◌⊎◌, cond, ltb}
use Rattle.std.proofs.Common.{sym, ◌∙◌, ap, subst, inl, inr, lt-ltb, le-ltb}
use Prim.Native.Nat.{ℕ, zero, suc, ◌+◌, ◌-◌, ◌<◌, ◌≤◌}
use Rattle.std.proofs.Math.Decide.{ℕ_discrete, dec_lt}
use native.Mathlib.Omega.{arith}
use Rattle.sums.specs.Iterate.{iter, Inverse, Period, period_below}
use Rattle.sums.proofs.IterateLaws.{iter-keeps, Reach, period-is, period-listed, reach-on, reach-keeps}
use Rattle.sums.specs.Listed.{Listed, pigeonhole}
use Rattle.sums.proofs.ListedLaws.{On, join, listed-join}
use Rattle.sums.specs.Orbits.{orbit_total, Classes}

pub orbit-total-zero : (n : ℕ) (f r : ℕ → ℕ) → orbit_total n f r 0 ≡ 0
unfolding orbit_total
orbit-total-zero n f r = refl

pub orbit-total-suc : (n : ℕ) (f r : ℕ → ℕ) (m : ℕ) → orbit_total n f r (suc m) ≡ orbit_total n f r m + period_below n f (r m)
unfolding orbit_total
orbit-total-suc n f r m = refl

-- every number below n on a list of h: n is at most h
pub on-all : (n h : ℕ) (p : ℕ → ℕ) → ((i : ℕ) → i < n → On h p i) → n ≤ h
on-all n h p on = pigeonhole h n index (record { below = λ i l. low i l (dec_lt i n); once = λ i j k l e. one i j k l (dec_lt i n) (dec_lt j n) e })
  where
    place : (i : ℕ) → Dec (i < n) → ℕ
    place i (yes l) = (on i l).0
    place i (no l) = zero

    index : ℕ → ℕ
    index i = place i (dec_lt i n)

    low : (i : ℕ) → i < n → (d : Dec (i < n)) → place i d < h
    low i l (yes m) = (on i m).1
    low i l (no m) = absurd (m l)

    one : (i j : ℕ) → i < n → j < n → (d : Dec (i < n)) (e : Dec (j < n)) → place i d ≡ place j e → i ≡ j
    one i j k l (yes u) (yes v) e = sym (on i u).2 ∙ ap p e ∙ (on j v).2
    one i j k l (yes u) (no v) e = absurd (v l)
    one i j k l (no u) e q = absurd (u k)

module _ {n m : ℕ} {f g class r : ℕ → ℕ} (K : Classes n m f g class r) where
  -- the orbits of the first c chosen numbers as one list
  record Joined (c : ℕ) : Type 0 where
    list : ℕ → ℕ
    listed : Listed n (orbit_total n f r c) list
    from : (k : ℕ) → k < orbit_total n f r c → (class (list k) < c) × Reach f (r (class (list k))) (list k)
    all : (a : ℕ) → a < n → class a < c → Reach f (r (class a)) a → On (orbit_total n f r c) list a

  class-along : {a b : ℕ} → a < n → Reach f a b → class b ≡ class a
  class-along {a} l w = (reach-keeps (λ z. (z < n) × (class z ≡ class a)) (λ z h. (K.permutes.there z h.0, K.keeps z h.0 ∙ h.1)) (l, refl) w).1

  joined-suc : (c : ℕ) → c < m → Joined c → Joined (suc c)
  unfolding orbit_total
  joined-suc c l J = record {
    list = join t p q;
    listed = listed-join J.listed lengthwise apart;
    from = λ k u. where-from k u (dec_lt k t);
    all = λ a u v w. there a u v w (ℕ_discrete (class a) c);
  }
    where
      t : ℕ
      t = orbit_total n f r c

      h : ℕ
      h = period_below n f (r c)

      p : ℕ → ℕ
      p = J.list

      q : ℕ → ℕ
      q k = iter k f (r c)

      lengthwise : Listed n h q
      lengthwise = period-listed K.permutes (K.chosen c l) (period-is K.permutes (K.chosen c l))

      class-q : (k : ℕ) → class (q k) ≡ c
      class-q k = class-along (K.chosen c l) (k, refl) ∙ K.of c l

      apart : (j k : ℕ) → j < t → k < h → p j ≢ q k
      apart j k u v e = let a = (J.from j u).0 in let b = ap class e ∙ class-q k in omega arith

      first : (k : ℕ) → k < t → join t p q k ≡ p k
      first k u = rw (lt-ltb k t u)

      second : (k : ℕ) → ¬ (k < t) → join t p q k ≡ q (k - t)
      second k u = rw (le-ltb k t (omega arith))

      where-from : (k : ℕ) → k < t + h → Dec (k < t) → (class (join t p q k) < suc c) × Reach f (r (class (join t p q k))) (join t p q k)
      where-from k u (yes v) = rw (first k v) ((let a = (J.from k v).0 in omega arith), (J.from k v).1)
      where-from k u (no v) = rw (second k v) ((let a = class-q (k - t) in omega arith), rw (class-q (k - t)) (k - t, refl))

      there : (a : ℕ) → a < n → class a < suc c → Reach f (r (class a)) a → Dec (class a ≡ c) → On (t + h) (join t p q) a
      there a u v w (yes e) = later (reach-on K.permutes (K.chosen c l) (period-is K.permutes (K.chosen c l)) (subst (λ (z : ℕ). Reach f (r z) a) e w))
        where
          gone : (k t : ℕ) → t + k - t ≡ k
          gone k t = omega arith

          later : On h q a → On (t + h) (join t p q) a
          later (k, i, s) = (t + k, omega arith, second (t + k) (λ z. omega arith) ∙ ap q (gone k t) ∙ s)
      there a u v w (no e) = sooner (J.all a u (omega arith) w)
        where
          sooner : On t p a → On (t + h) (join t p q) a
          sooner (k, i, s) = (k, omega arith, first k i ∙ s)

  joined : (c : ℕ) → c ≤ m → Joined c
  unfolding orbit_total
  joined zero l = record {
    list = λ k. k;
    listed = record { below = λ k u. omega arith; once = λ j k u v e. omega arith };
    from = λ k u. absurd (omega arith);
    all = λ a u v w. absurd (omega arith);
  }
  joined (suc c) l = joined-suc c l (joined c (omega arith))

  -- the orbits of the first c are together at most n long
  pub orbits-most : (c : ℕ) → c ≤ m → orbit_total n f r c ≤ n
  orbits-most c l = let J = joined c l in pigeonhole n (orbit_total n f r c) J.list J.listed

  -- every number is met: they are n long
  pub orbits-all : ((a : ℕ) → a < n → Reach f (r (class a)) a) → orbit_total n f r m ≡ n
  orbits-all w =
      let J = joined m (omega arith) in
      let low = on-all n (orbit_total n f r m) J.list (λ a l. J.all a l (K.known a l) (w a l)) in
      let high = orbits-most m (omega arith) in
      omega arith

  -- they are n long: every number is met, since one that is not would be one too many
  pub orbits-whole : orbit_total n f r m ≡ n → (a : ℕ) → a < n → Reach f (r (class a)) a
  orbits-whole e a l = go (any-on (orbit_total n f r m))
    where
      J : Joined m
      J = joined m (omega arith)

      list : ℕ → ℕ
      list = J.list

      -- a is among the first h of the list, or is none of them
      any-on : (h : ℕ) → On h list a ⊎ ((k : ℕ) → k < h → list k ≢ a)
      any-on zero = inr (λ k u s. omega arith)
      any-on (suc h) = more (any-on h) (ℕ_discrete (list h) a)
        where
          more : On h list a ⊎ ((k : ℕ) → k < h → list k ≢ a) → Dec (list h ≡ a) → On (suc h) list a ⊎ ((k : ℕ) → k < suc h → list k ≢ a)
          more (inl (k, u, s)) d = inl (k, omega arith, s)
          more (inr w) (yes s) = inl (h, omega arith, s)
          more (inr w) (no s) = inr (λ k u. last k u (ℕ_discrete k h))
            where
              last : (k : ℕ) → k < suc h → Dec (k ≡ h) → list k ≢ a
              last k u (yes z) = λ v. s (sym (ap list z) ∙ v)
              last k u (no z) = w k (omega arith)

      go : On (orbit_total n f r m) list a ⊎ ((k : ℕ) → k < orbit_total n f r m → list k ≢ a) → Reach f (r (class a)) a
      go (inl (k, u, s)) = subst (λ (z : ℕ). Reach f (r (class z)) z) s (J.from k u).1
      go (inr w) =
          let one : Listed n 1 (λ k. a) = record { below = λ k u. l; once = λ j k u v z. omega arith } in
          let more = listed-join J.listed one (λ j k u v. w j u) in
          let c = pigeonhole n (orbit_total n f r m + 1) (join (orbit_total n f r m) list (λ k. a)) more in
          absurd (omega arith)
