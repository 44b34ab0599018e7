-- Laws of specs/Bounded.antt.
use Rattle.std.specs.Prelude.{◌≡◌, refl, ◌≢◌, ◌⊎◌, Bool, true, false, not, ◌&&◌, ◌||◌, T, eqb, ltb, leb}
use Rattle.std.proofs.Common.{sym, ◌∙◌, ap, inl, inr, le_refl, add-zero, add-suc, add-one, eqb→eq, ltb→lt, leb→le, T_not}
use Rattle.std.proofs.Math.Path.{subst}
use Prim.Native.Nat.{ℕ, zero, suc, ◌+◌, ◌-◌, ◌<◌, ◌≤◌}
use Rattle.std.proofs.Math.Decide.{ℕ_discrete, dec_lt}
use native.Mathlib.Omega.{arith}
use Rattle.std.proofs.Math.Dec.{not_T}
use Rattle.sums.specs.Bit.{bit, test-ext}
use Rattle.sums.proofs.BitLaws.{bit-yes, bit-no, bit_le, sure, eq_test, eq?, and_left, and_right, and_both, or_cases, or_left, or_right}
use Rattle.sums.specs.Put.{put}
use Rattle.sums.proofs.PutLaws.{put_same, put_other}
use Rattle.sums.specs.Bounded.{all_below, any_below, later, first_below, Least, count}

-- what holds below n and at n holds below n + 1
pub up_to : {P : ℕ → Type 0} (n : ℕ) → ((i : ℕ) → i < n → P i) → P n → (i : ℕ) → i < suc n → P i
up_to {P} n f p i l = go (ℕ_discrete n i)
  where
    go : Dec (n ≡ i) → P i
    go (yes e) = subst P e p
    go (no d) = f i (omega arith)

pub all-below→ : (n : ℕ) (p : ℕ → Bool) → T (all_below n p) → (i : ℕ) → i < n → T (p i)
unfolding all_below
all-below→ zero p h i l = absurd (omega arith)
all-below→ (suc n) p h i l = up_to {P = λ i. T (p i)} n (all-below→ n p (and_right (p n) (all_below n p) h)) (and_left (p n) (all_below n p) h) i l

pub all-below← : (n : ℕ) (p : ℕ → Bool) → ((i : ℕ) → i < n → T (p i)) → T (all_below n p)
unfolding all_below
all-below← zero p h = tt
all-below← (suc n) p h = and_both (p n) (all_below n p) (h n (le_refl (suc n))) (all-below← n p (λ i l. h i (omega arith)))

-- rules of one table against another, each by one test
pub all-eq : (n : ℕ) (f g : ℕ → ℕ) → T (all_below n (λ i. eqb (f i) (g i))) → (i : ℕ) → i < n → f i ≡ g i
all-eq n f g t i l = eqb→eq (f i) (g i) (all-below→ n (λ i. eqb (f i) (g i)) t i l)

pub all-ne : (n : ℕ) (f g : ℕ → ℕ) → T (all_below n (λ i. not (eqb (f i) (g i)))) → (i : ℕ) → i < n → f i ≢ g i
all-ne n f g t i l = (eq? (f i) (g i)).1 (all-below→ n (λ i. not (eqb (f i) (g i))) t i l)

pub all-lt : (n : ℕ) (f g : ℕ → ℕ) → T (all_below n (λ i. ltb (f i) (g i))) → (i : ℕ) → i < n → f i < g i
all-lt n f g t i l = ltb→lt (f i) (g i) (all-below→ n (λ i. ltb (f i) (g i)) t i l)

pub all-le : (n : ℕ) (f g : ℕ → ℕ) → T (all_below n (λ i. leb (f i) (g i))) → (i : ℕ) → i < n → f i ≤ g i
all-le n f g t i l = leb→le (f i) (g i) (all-below→ n (λ i. leb (f i) (g i)) t i l)

pub any-below→ : (n : ℕ) (p : ℕ → Bool) → T (any_below n p) → (i : ℕ) × (i < n) × T (p i)
unfolding any_below
any-below→ zero p h = absurd h
any-below→ (suc n) p h = go (or_cases (p n) (any_below n p) h) (any-below→ n p)
  where
    go : T (p n) ⊎ T (any_below n p) → (T (any_below n p) → (i : ℕ) × (i < n) × T (p i)) → (i : ℕ) × (i < suc n) × T (p i)
    go (inl t) ih = (n, le_refl (suc n), t)
    go (inr t) ih = let r = ih t in (r.0, (let l = r.1 in omega arith), r.2)

pub any-below← : (n : ℕ) (p : ℕ → Bool) (i : ℕ) → i < n → T (p i) → T (any_below n p)
unfolding any_below
any-below← zero p i l t = absurd (omega arith)
any-below← (suc n) p i l t = go (ℕ_discrete n i) (any-below← n p i)
  where
    go : Dec (n ≡ i) → (i < n → T (p i) → T (any_below n p)) → T (p n || any_below n p)
    go (yes e) ih = or_left (p n) (any_below n p) (subst (λ (j : ℕ). T (p j)) (sym e) t)
    go (no d) ih = or_right (p n) (any_below n p) (ih (omega arith) t)

-- the test fails: none passes
pub none-below→ : (n : ℕ) (p : ℕ → Bool) → T (not (any_below n p)) → (i : ℕ) → i < n → T (p i) → ⊥
none-below→ n p h i l t = T_not (any_below n p) h (any-below← n p i l t)

pub none-below← : (n : ℕ) (p : ℕ → Bool) → ((i : ℕ) → i < n → T (p i) → ⊥) → T (not (any_below n p))
none-below← n p h = not_T (any_below n p) (λ t. let r = any-below→ n p t in h r.0 r.1 r.2)

-- tests that agree below n
pub all-below-ext : (n : ℕ) (p q : ℕ → Bool) → ((i : ℕ) → i < n → p i ≡ q i) → all_below n p ≡ all_below n q
all-below-ext n p q h = test-ext (all_below n p) (all_below n q)
    (λ t. all-below← n q (λ i l. subst T (h i l) (all-below→ n p t i l)))
    (λ t. all-below← n p (λ i l. subst T (sym (h i l)) (all-below→ n q t i l)))

pub any-below-ext : (n : ℕ) (p q : ℕ → Bool) → ((i : ℕ) → i < n → p i ≡ q i) → any_below n p ≡ any_below n q
any-below-ext n p q h = test-ext (any_below n p) (any_below n q)
    (λ t. let r = any-below→ n p t in any-below← n q r.0 r.1 (subst T (h r.0 r.1) r.2))
    (λ t. let r = any-below→ n q t in any-below← n p r.0 r.1 (subst T (sym (h r.0 r.1)) r.2))

pub first-below-least : (n : ℕ) (p : ℕ → Bool) → Least n p (first_below n p)
unfolding first_below
first-below-least zero p = record { at_most = omega arith; passes = λ l. absurd (omega arith); before = λ j l t. omega arith }
first-below-least (suc n) p = go (p zero) refl (first-below-least n (λ i. p (suc i)))
  where
    go : (t : Bool) → p zero ≡ t → Least n (λ i. p (suc i)) (first_below n (λ i. p (suc i)))
        → Least (suc n) p (later t (first_below n) (λ i. p (suc i)))
    go true e r = record { at_most = omega arith; passes = λ l. subst T (sym e) tt; before = λ j l t. omega arith }
    go false e r = record { at_most = let h = r.at_most in omega arith; passes = λ l. r.passes (omega arith); before = early }
      where
        early : (j : ℕ) → j < suc (first_below n (λ i. p (suc i))) → T (p j) → ⊥
        early zero l t = subst T e t
        early (suc j) l t = r.before j (omega arith) t

-- it is the only one
pub least-unique : {n : ℕ} {p : ℕ → Bool} {j k : ℕ} → Least n p j → Least n p k → j ≡ k
least-unique {n} {p} {j} {k} a b = go (dec_lt j k) (dec_lt k j)
  where
    go : Dec (j < k) → Dec (k < j) → j ≡ k
    go (yes l) d = absurd (b.before j l (a.passes (let h = b.at_most in omega arith)))
    go (no l) (yes m) = absurd (a.before k m (b.passes (let h = a.at_most in omega arith)))
    go (no l) (no m) = omega arith

pub first-below-is : (n : ℕ) (p : ℕ → Bool) {k : ℕ} → k ≤ n → (k < n → T (p k)) → ((j : ℕ) → j < k → T (p j) → ⊥) → first_below n p ≡ k
first-below-is n p a b c = least-unique (first-below-least n p) (record { at_most = a; passes = b; before = c })

module _ (n : ℕ) (p : ℕ → Bool) where
  pub first-below-le : first_below n p ≤ n
  first-below-le = (first-below-least n p).at_most

  pub first-below-passes : first_below n p < n → T (p (first_below n p))
  first-below-passes = (first-below-least n p).passes

  pub first-below-before : (j : ℕ) → j < first_below n p → T (p j) → ⊥
  first-below-before = (first-below-least n p).before

  -- something passes, so the least is no later
  pub first-below-at-most : (i : ℕ) → T (p i) → first_below n p ≤ i
  first-below-at-most i t = go (dec_lt i (first_below n p))
    where
      go : Dec (i < first_below n p) → first_below n p ≤ i
      go (yes l) = absurd (first-below-before i l t)
      go (no l) = omega arith

  pub first-below-none : ((i : ℕ) → i < n → T (p i) → ⊥) → first_below n p ≡ n
  first-below-none h = first-below-is n p (le_refl n) (λ l. absurd (omega arith)) h

  pub first-below-any : first_below n p ≡ n → (i : ℕ) → i < n → T (p i) → ⊥
  first-below-any e i l t = let h = first-below-at-most i t in omega arith

pub count-suc : (n : ℕ) (p : ℕ → Bool) → count (suc n) p ≡ bit (p n) + count n p
unfolding count
count-suc n p = refl

pub count-ext : (n : ℕ) (p q : ℕ → Bool) → ((i : ℕ) → i < n → p i ≡ q i) → count n p ≡ count n q
unfolding count
count-ext zero p q h = refl
count-ext (suc n) p q h = let e = ap bit (h n (le_refl (suc n))) in let i = count-ext n p q (λ i l. h i (omega arith)) in omega arith

pub count-le : (n : ℕ) (p : ℕ → Bool) → count n p ≤ n
unfolding count
count-le zero p = omega arith
count-le (suc n) p = let i = count-le n p in let b = bit_le (p n) in omega arith

pub count_none : (n : ℕ) (p : ℕ → Bool) → ((i : ℕ) → i < n → T (p i) → ⊥) → count n p ≡ 0
unfolding count
count_none zero p h = refl
count_none (suc n) p h = let i = count_none n p (λ i l. h i (omega arith)) in let b = bit-no (p n) (h n (le_refl (suc n))) in omega arith

pub count-all : (n : ℕ) (p : ℕ → Bool) → ((i : ℕ) → i < n → T (p i)) → count n p ≡ n
unfolding count
count-all zero p h = refl
count-all (suc n) p h = let i = count-all n p (λ i l. h i (omega arith)) in let b = bit-yes (p n) (h n (le_refl (suc n))) in omega arith

-- those that pass and those that fail are all
pub count-not : (n : ℕ) (p : ℕ → Bool) → count n p + count n (λ i. not (p i)) ≡ n
unfolding count
count-not zero p = refl
count-not (suc n) p = let i = count-not n p in let b = one (p n) in omega arith
  where
    one : (t : Bool) → bit t + bit (not t) ≡ 1
    one true = refl
    one false = refl

pub count_add : (n m : ℕ) (p : ℕ → Bool) → count (n + m) p ≡ count n p + count m (λ i. p (n + i))
unfolding count
count_add n zero p = ap (λ (k : ℕ). count k p) (add-zero n) ∙ sym (add-zero (count n p))
count_add n (suc m) p = ap (λ (k : ℕ). count k p) (add-suc n m) ∙ (let i = count_add n m p in omega arith)

pub count-mono : (m n : ℕ) (p : ℕ → Bool) → m ≤ n → count m p ≤ count n p
unfolding count
count-mono m n p l = ap-le (sym (count_add m (n - m) p) ∙ ap (λ (k : ℕ). count k p) (whole m n l))
  where
    whole : (m n : ℕ) → m ≤ n → m + (n - m) ≡ n
    whole m n l = omega arith

    ap-le : count m p + count (n - m) (λ i. p (m + i)) ≡ count n p → count m p ≤ count n p
    ap-le e = omega arith

-- one passes just where the count is not 0
pub count-positive : (n : ℕ) (p : ℕ → Bool) (i : ℕ) → i < n → T (p i) → 0 < count n p
unfolding count
count-positive zero p i l t = absurd (omega arith)
count-positive (suc n) p i l t = go (ℕ_discrete n i) (count-positive n p i)
  where
    go : Dec (n ≡ i) → (i < n → T (p i) → 0 < count n p) → 0 < bit (p n) + count n p
    go (yes e) ih = let b = bit-yes (p n) (subst (λ (j : ℕ). T (p j)) (sym e) t) in omega arith
    go (no d) ih = let h = ih (omega arith) t in omega arith

pub count-some : (n : ℕ) (p : ℕ → Bool) → 0 < count n p → (i : ℕ) × (i < n) × T (p i)
count-some n p h = any-below→ n p (sure (any_below n p) (λ f. let e = count_none n p (none-below→ n p f) in omega arith))

-- one that passes counts after it, and not before; so with a count of 1 there is just one
pub count-before : (k n : ℕ) (p : ℕ → Bool) → k < n → T (p k) → count k p < count n p
unfolding count
count-before k n p l t = let m = count-mono (suc k) n p l in let b = bit-yes (p k) t in omega arith

pub count-sole : (n : ℕ) (p : ℕ → Bool) (i j : ℕ) → count n p ≤ 1 → i < n → j < n → T (p i) → T (p j) → i ≡ j
count-sole n p i j h u v t w = go (dec_lt i j) (dec_lt j i)
  where
    go : Dec (i < j) → Dec (j < i) → i ≡ j
    go (yes l) d = absurd (let a = count-positive j p i l t in let b = count-before j n p v w in omega arith)
    go (no l) (yes m) = absurd (let a = count-positive i p j m w in let b = count-before i n p u t in omega arith)
    go (no l) (no m) = omega arith

-- two tests that differ at one number
pub count-change : (n : ℕ) (p q : ℕ → Bool) (a : ℕ) → a < n → ((i : ℕ) → i < n → i ≢ a → p i ≡ q i)
    → count n q + bit (p a) ≡ count n p + bit (q a)
unfolding count
count-change zero p q a l h = absurd (omega arith)
count-change (suc n) p q a l h = go (ℕ_discrete n a) (λ k. count-change n p q a k (λ i m. h i (omega arith)))
  where
    go : Dec (n ≡ a) → (a < n → count n q + bit (p a) ≡ count n p + bit (q a))
        → bit (q n) + count n q + bit (p a) ≡ bit (p n) + count n p + bit (q a)
    go (yes e) ih =
        let c = count-ext n p q (λ i m. h i (omega arith) (λ d. omega arith)) in
        let u = ap (λ (j : ℕ). bit (p j)) e in let v = ap (λ (j : ℕ). bit (q j)) e in omega arith
    go (no d) ih = let c = ih (omega arith) in let u = ap bit (h n (le_refl (suc n)) d) in omega arith

-- one test more
pub count-more : (m n : ℕ) (p q : ℕ → Bool) → m ≡ n + 1 → ((i : ℕ) → i < n → p i ≡ q i) → count m p ≤ count n q + 1
count-more m n p q e h =
    let a = ap (λ (k : ℕ). count k p) (e ∙ add-one n) in
    let b = count-suc n p in let c = count-ext n p q h in let d = bit_le (p n) in
    omega arith

-- two counts beside two others
module _ (w x y z : ℕ → Bool) (h : (i : ℕ) → bit (y i) + bit (z i) ≤ bit (w i) + bit (x i)) where
  pub count-two : (n : ℕ) → count n y + count n z ≤ count n w + count n x
  unfolding count
  count-two zero = omega arith
  count-two (suc n) = let a = count-two n in let b = h n in omega arith

  pub count-two-less : (k : ℕ) → bit (y k) + bit (z k) < bit (w k) + bit (x k) → (n : ℕ) → k < n
      → count n y + count n z < count n w + count n x
  unfolding count
  count-two-less k s zero l = absurd (omega arith)
  count-two-less k s (suc n) l = go (ℕ_discrete k n) (count-two-less k s n)
    where
      go : Dec (k ≡ n) → (k < n → count n y + count n z < count n w + count n x)
          → bit (y n) + count n y + (bit (z n) + count n z) < bit (w n) + count n w + (bit (x n) + count n x)
      go (yes e) rest =
          let a = count-two n in
          let b : bit (y n) + bit (z n) < bit (w n) + bit (x n) = subst (λ (j : ℕ). bit (y j) + bit (z j) < bit (w j) + bit (x j)) e s in
          omega arith
      go (no d) rest = let a = rest (omega arith) in let b = h n in omega arith

-- ---- how many numbers below n a function takes to 0
abbrev pub zeros : (ℕ → ℕ) → ℕ → ℕ
zeros f n = count n (λ x. eqb (f x) 0)

pub zeros-same : (f g : ℕ → ℕ) (n : ℕ) → ((x : ℕ) → x < n → eqb (f x) 0 ≡ eqb (g x) 0) → zeros f n ≡ zeros g n
zeros-same f g n h = count-ext n (λ x. eqb (f x) 0) (λ x. eqb (g x) 0) h

-- a number that f takes to 0 counts no more once it is taken elsewhere
pub zeros-drop : (f : ℕ → ℕ) (a v n : ℕ) → a < n → f a ≡ 0 → 0 < v → suc (zeros (put f a v) n) ≡ zeros f n
zeros-drop f a v n l z p =
    let c = count-change n (λ x. eqb (f x) 0) (λ x. eqb (put f a v x) 0) a l (λ i m d. ap (λ (y : ℕ). eqb y 0) (sym (put_other f a v i d))) in
    let b = bit-yes (eqb (f a) 0) (eq_test z) in
    let o = bit-no (eqb (put f a v a) 0) (λ t. let e = eqb→eq (put f a v a) 0 t in let s = put_same f a v in omega arith) in
    omega arith

-- ---- counts of two tests
bit-imp : (x y : Bool) → (T x → T y) → bit x ≤ bit y
bit-imp true true k = omega arith
bit-imp true false k = absurd (k tt)
bit-imp false y k = omega arith

pub count-imp : (n : ℕ) (s t : ℕ → Bool) → ((i : ℕ) → i < n → T (s i) → T (t i)) → count n s ≤ count n t
unfolding count
count-imp zero s t h = omega arith
count-imp (suc n) s t h = let r = count-imp n s t (λ i l. h i (omega arith)) in let b = bit-imp (s n) (t n) (h n (le_refl (suc n))) in omega arith

-- one passes the second test and not the first
pub count_less : (n : ℕ) (s t : ℕ → Bool) → ((i : ℕ) → i < n → T (s i) → T (t i)) → {k : ℕ} → k < n → (T (s k) → ⊥)
    → T (t k) → count n s < count n t
unfolding count
count_less zero s t h l a b = absurd (omega arith)
count_less (suc n) s t h {k} l a b = go (ℕ_discrete k n) (λ m. count_less n s t (λ i l. h i (omega arith)) {k = k} m a b) (count-imp n s t (λ i l. h i (omega arith)))
  where
    go : Dec (k ≡ n) → (k < n → count n s < count n t) → count n s ≤ count n t → bit (s n) + count n s < bit (t n) + count n t
    go (yes e) ih c =
        let x = bit-no (s n) (λ z. a (subst (λ (j : ℕ). T (s j)) (sym e) z)) in
        let y = bit-yes (t n) (subst (λ (j : ℕ). T (t j)) e b) in
        omega arith
    go (no d) ih c = let x = ih (omega arith) in let y = bit-imp (s n) (t n) (h n (le_refl (suc n))) in omega arith

-- one count of two that exclude each other
pub count-parts : (n : ℕ) (a b c : ℕ → Bool) → ((i : ℕ) → i < n → bit (c i) ≡ bit (a i) + bit (b i)) → count n c ≡ count n a + count n b
unfolding count
count-parts zero a b c h = refl
count-parts (suc n) a b c h = let k = count-parts n a b c (λ i l. h i (omega arith)) in let m = h n (omega arith) in omega arith

pub count-apart : (n : ℕ) (a b : ℕ → Bool) → ((i : ℕ) → i < n → bit (a i) + bit (b i) ≤ 1) → count n a + count n b ≤ n
unfolding count
count-apart zero a b h = omega arith
count-apart (suc n) a b h = let k = count-apart n a b (λ i l. h i (omega arith)) in let m = h n (omega arith) in omega arith
