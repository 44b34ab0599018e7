-- Laws of specs/Sum.antt.
use Rattle.std.specs.Prelude.{◌≡◌, refl, ◌≢◌, ◌⊎◌, Bool, true, false, cond, List, [], ◌∷◌, ℕ, zero, suc, ◌+◌, ◌-◌, ◌*◌, ◌<◌, ◌≤◌, T, eqb, length, get_or, set, ℤ, pos, nat_abs, neg_ℤ, ◌+ℤ◌, ◌-ℤ◌, ◌*ℤ◌, ◌<ℤ◌, ◌≤ℤ◌}
use Rattle.std.proofs.Common.{sym, ◌∙◌, ap, ap₂, subst, inl, inr, zero-le, le_refl, le_trans, le_of_eq, add_comm, add-le-add, suc-mul, arith, le→leb, get_or-set_same, get_or-set_other, eq-eqb, ne_eqb}
use Rattle.std.proofs.Math.Decide.{ℕ_discrete}
use Rattle.std.proofs.Math.IntN.{+ℤ_idl, +ℤ_idr, +ℤ_assoc, +ℤ_comm, +ℤ_invr, neg_ℤ-+ℤ, *ℤ-zero}
use Rattle.std.specs.Int.Signed.{≤ℤ_refl, le_z_yes}
use Rattle.algebra.proofs.Bound.{nat_abs-+}
use Rattle.algebra.proofs.Laws.{swap4, *ℤ-+ℤ}
use Rattle.algebra.specs.Ring.{◌⊕◌, ◌⊖◌}
use Rattle.algebra.proofs.RingLaws.{ring, v0, v1, v2}
use Rattle.algebra.proofs.Order.{abs-0≤, add-0<, add-0≤, lt-le}
use Rattle.sums.specs.Bit.{bit}
use Rattle.sums.proofs.BitLaws.{bit-yes}
use Rattle.sums.specs.Put.{put}
use Rattle.sums.proofs.PutLaws.{put_same, put_other}
use Rattle.sums.proofs.Cases.{All, Some, None, Distinct, some_or_none}
use Rattle.sums.specs.Bounded.{count}
use Rattle.sums.specs.Listed.{Listed}
use Rattle.sums.proofs.ListedLaws.{On, entry, listed-list, on_list}
use Rattle.sums.specs.Sum.{sum}

-- an index below n is below n + 1
up : {i n : ℕ} → i < n → i < suc n
up h = omega arith

pub sum-ext : (n : ℕ) {f g : ℕ → ℤ} → ((i : ℕ) → i < n → f i ≡ g i) → sum n f ≡ sum n g
unfolding sum
sum-ext zero h = refl
sum-ext (suc n) h = ap₂ (λ (x y : ℤ). x +ℤ y) (sum-ext n (λ i l. h i (up l))) (h n (le_refl (suc n)))

pub sum-zero : (n : ℕ) → sum n (λ _. pos zero) ≡ pos zero
unfolding sum
sum-zero zero = refl
sum-zero (suc n) = +ℤ_idr (sum n (λ _. pos zero)) ∙ sum-zero n

pub sum-const : (n c : ℕ) → sum n (λ _. pos c) ≡ pos (n * c)
unfolding sum
sum-const zero c = ap pos (none c)
  where
    none : (c : ℕ) → 0 ≡ 0 * c
    none c = omega arith
sum-const (suc n) c = ap (λ (x : ℤ). x +ℤ pos c) (sum-const n c) ∙ ap pos (more n c)
  where
    more : (n c : ℕ) → n * c + c ≡ suc n * c
    more n c = omega arith

pub sum-add : (n : ℕ) (f g : ℕ → ℤ) → sum n (λ i. f i +ℤ g i) ≡ sum n f +ℤ sum n g
unfolding sum
sum-add zero f g = refl
sum-add (suc n) f g = ap (λ (x : ℤ). x +ℤ (f n +ℤ g n)) (sum-add n f g) ∙ swap4 (sum n f) (sum n g) (f n) (g n)

pub sum-neg : (n : ℕ) (f : ℕ → ℤ) → sum n (λ i. neg_ℤ (f i)) ≡ neg_ℤ (sum n f)
unfolding sum
sum-neg zero f = refl
sum-neg (suc n) f = ap (λ (x : ℤ). x +ℤ neg_ℤ (f n)) (sum-neg n f) ∙ sym (neg_ℤ-+ℤ (sum n f) (f n))

pub sum-scale : (n : ℕ) (c : ℤ) (f : ℕ → ℤ) → sum n (λ i. c *ℤ f i) ≡ c *ℤ sum n f
unfolding sum
sum-scale zero c f = sym (*ℤ-zero c)
sum-scale (suc n) c f = ap (λ (x : ℤ). x +ℤ c *ℤ f n) (sum-scale n c f) ∙ sym (*ℤ-+ℤ c (sum n f) (f n))

-- the exchange of two sums
pub sum-swap : (n m : ℕ) (f : ℕ → ℕ → ℤ) → sum n (λ i. sum m (f i)) ≡ sum m (λ j. sum n (λ i. f i j))
unfolding sum
sum-swap zero m f = sym (sum-zero m)
sum-swap (suc n) m f = ap (λ (x : ℤ). x +ℤ sum m (f n)) (sum-swap n m f) ∙ sym (sum-add m (λ j. sum n (λ i. f i j)) (f n))

-- the first summand apart; two summands at a time
pub sum_first : (n : ℕ) (f : ℕ → ℤ) → 0 < n → sum n f ≡ f zero +ℤ sum (n - 1) (λ i. f (suc i))
unfolding sum
sum_first zero f l = absurd (omega arith)
sum_first (suc zero) f l = +ℤ_comm (pos zero) (f zero)
sum_first (suc (suc n)) f l =
    ap (λ (x : ℤ). x +ℤ f (suc n)) (sum_first (suc n) f (omega arith)) ∙ +ℤ_assoc (f zero) (sum (suc n - 1) (λ i. f (suc i))) (f (suc n))
    ∙ ap (λ (x : ℤ). f zero +ℤ x) (ap (λ (m : ℕ). sum m (λ i. f (suc i)) +ℤ f (suc n)) (less n) ∙ ap (λ (m : ℕ). sum m (λ i. f (suc i))) (sym (less (suc n))))
  where
    less : (n : ℕ) → suc n - 1 ≡ n
    less n = omega arith

pub sum-pairs : (n : ℕ) (f : ℕ → ℤ) → sum (2 * n) f ≡ sum n (λ u. f (2 * u) +ℤ f (2 * u + 1))
unfolding sum
sum-pairs zero f = refl
sum-pairs (suc n) f =
    ap (λ (k : ℕ). sum k f) (twice n) ∙ +ℤ_assoc (sum (2 * n) f) (f (2 * n)) (f (suc (2 * n)))
    ∙ ap₂ (λ (x : ℤ) (k : ℕ). x +ℤ (f (2 * n) +ℤ f k)) (sum-pairs n f) (next n)
  where
    twice : (n : ℕ) → 2 * suc n ≡ suc (suc (2 * n))
    twice n = omega arith

    next : (n : ℕ) → suc (2 * n) ≡ 2 * n + 1
    next n = omega arith

abbrev pub only : Bool → ℤ → ℤ
only b x = cond b x (pos zero)

pub sum-split : (n : ℕ) (b : ℕ → Bool) (f : ℕ → ℤ)
    → sum n (λ i. cond (b i) (f i) (pos zero)) +ℤ sum n (λ i. cond (b i) (pos zero) (f i)) ≡ sum n f
sum-split n b f = sym (sum-add n (λ i. cond (b i) (f i) (pos zero)) (λ i. cond (b i) (pos zero) (f i))) ∙ sum-ext n (λ i l. each (b i) (f i))
  where
    each : (b : Bool) (x : ℤ) → cond b x (pos zero) +ℤ cond b (pos zero) x ≡ x
    each true x = +ℤ_idr x
    each false x = +ℤ_idl x

-- a test of equality that is known
pub only_yes : (i k : ℕ) (x : ℤ) → i ≡ k → only (eqb i k) x ≡ x
only_yes i k x e = rw (eq-eqb i k e)

pub only_no : (i k : ℕ) (x : ℤ) → i ≢ k → only (eqb i k) x ≡ pos zero
only_no i k x n = rw (ne_eqb i k n)

pub sum-none : (n : ℕ) (f : ℕ → ℤ) → ((i : ℕ) → i < n → f i ≡ pos zero) → sum n f ≡ pos zero
sum-none n f h = sum-ext n h ∙ sum-zero n

pub sum_one : (n : ℕ) (f : ℕ → ℤ) (k : ℕ) → k < n → ((i : ℕ) → i < n → i ≢ k → f i ≡ pos zero) → sum n f ≡ f k
unfolding sum
sum_one zero f k l h = absurd (none k l)
  where
    none : (k : ℕ) → k < zero → ⊥
    none k l = omega arith
sum_one (suc n) f k l h = go (sum_one n f k) (ℕ_discrete n k)
  where
    go : (k < n → ((i : ℕ) → i < n → i ≢ k → f i ≡ pos zero) → sum n f ≡ f k) → Dec (n ≡ k) → sum n f +ℤ f n ≡ f k
    go ih (yes e) = ap₂ (λ (x : ℤ) (j : ℕ). x +ℤ f j) (sum-none n f (λ i m. h i (up m) (λ q. omega arith))) e ∙ +ℤ_idl (f k)
    go ih (no d) = ap₂ (λ (x y : ℤ). x +ℤ y) (ih (omega arith) (λ i m. h i (up m))) (h n (le_refl (suc n)) d) ∙ +ℤ_idr (f k)

module _ {n h : ℕ} {p : ℕ → ℕ} (ls : Listed n h p) where
  -- The sum over all indices is the sum along the list, where every index is on the list or has a zero summand.
  pub sum-along : (f : ℕ → ℤ) → ((i : ℕ) → i < n → (f i ≡ pos zero) ⊎ On h p i) → sum n f ≡ sum h (λ k. f (p k))
  sum-along f cover =
      sum-ext n (λ i l. spread i l (cover i l)) ∙ sum-swap n h (λ i k. only (eqb i (p k)) (f i))
      ∙ sum-ext h (λ k l. sum_one n (λ i. only (eqb i (p k)) (f i)) (p k) (ls.below k l) (λ i m d. only_no i (p k) (f i) d) ∙ only_yes (p k) (p k) (f (p k)) refl)
    where
      spread : (i : ℕ) → i < n → (f i ≡ pos zero) ⊎ On h p i → f i ≡ sum h (λ k. only (eqb i (p k)) (f i))
      spread i l (inl z) = z ∙ sym (sum-none h (λ k. only (eqb i (p k)) (f i)) (λ k m. ap (only (eqb i (p k))) z ∙ same (eqb i (p k))))
        where
          same : (b : Bool) → only b (pos zero) ≡ pos zero
          same true = refl
          same false = refl
      spread i l (inr (k, m, e)) = sym (sum_one h (λ j. only (eqb i (p j)) (f i)) k m (λ j q d. only_no i (p j) (f i) (λ r. d (ls.once j k q m (sym r ∙ sym e)))) ∙ only_yes i (p k) (f i) (sym e))

  -- The sum of a summand that is changed along the list only.
  pub sum-change : (f g : ℕ → ℤ) → ((i : ℕ) → i < n → (g i ≡ f i) ⊎ On h p i) → sum n g ≡ sum n f +ℤ sum h (λ k. g (p k) -ℤ f (p k))
  sum-change f g cover = sum-ext n (λ i l. ring (f i ∷ g i ∷ []) v1 (v0 ⊕ (v1 ⊖ v0)) refl) ∙ sum-add n f (λ i. g i -ℤ f i)
      ∙ ap (λ (x : ℤ). sum n f +ℤ x) (sum-along (λ i. g i -ℤ f i) (λ i l. still i (cover i l)))
    where
      still : (i : ℕ) → (g i ≡ f i) ⊎ On h p i → (g i -ℤ f i ≡ pos zero) ⊎ On h p i
      still i (inl e) = inl (ap (λ (x : ℤ). x -ℤ f i) e ∙ +ℤ_invr (f i))
      still i (inr o) = inr o

-- Indices below n, each in one of m classes; the class c is listed by p c 0 … p c (size c - 1). The sum goes class by class.
pub sum-classes : (n m : ℕ) (class : ℕ → ℕ) (size : ℕ → ℕ) (p : ℕ → ℕ → ℕ) → ((i : ℕ) → i < n → class i < m)
    → ((c : ℕ) → c < m → Listed n (size c) (p c))
    → ((c k : ℕ) → c < m → k < size c → class (p c k) ≡ c) → ((i : ℕ) → i < n → On (size (class i)) (p (class i)) i)
    → (f : ℕ → ℤ) → sum n f ≡ sum m (λ c. sum (size c) (λ k. f (p c k)))
sum-classes n m class size p below lists right cover f =
    sum-ext n (λ i l. sym (sum_one m (λ c. only (eqb (class i) c) (f i)) (class i) (below i l) (λ c q d. only_no (class i) c (f i) (λ e. d (sym e))) ∙ only_yes (class i) (class i) (f i) refl))
    ∙ sum-swap n m (λ i c. only (eqb (class i) c) (f i))
    ∙ sum-ext m (λ c l. sum-along (lists c l) (λ i. only (eqb (class i) c) (f i)) (λ i q. where-is c i q (ℕ_discrete (class i) c))
    ∙ sum-ext (size c) (λ k q. only_yes (class (p c k)) c (f (p c k)) (right c k l q)))
  where
    where-is : (c i : ℕ) → i < n → Dec (class i ≡ c) → (only (eqb (class i) c) (f i) ≡ pos zero) ⊎ On (size c) (p c) i
    where-is c i q (yes e) = inr (subst (λ (c : ℕ). On (size c) (p c) i) e (cover i q))
    where-is c i q (no d) = inl (only_no (class i) c (f i) d)

-- ---- the same along a list that is written out
module _ {n : ℕ} (l : List ℕ) (low : All (λ a. a < n) l) (distinct : Distinct l) where
  pub sum-along-list : (f : ℕ → ℤ) → ((i : ℕ) → i < n → None i l → f i ≡ pos zero) → sum n f ≡ sum (length l) (λ k. f (entry l k))
  sum-along-list f h = sum-along (listed-list l low distinct) f (λ i u. at i u (some_or_none i l))
    where
      at : (i : ℕ) → i < n → Some i l ⊎ None i l → (f i ≡ pos zero) ⊎ On (length l) (entry l) i
      at i u (inl s) = inr (on_list l s)
      at i u (inr o) = inl (h i u o)

  pub sum-change-list : (f g : ℕ → ℤ) → ((i : ℕ) → i < n → None i l → g i ≡ f i)
      → sum n g ≡ sum n f +ℤ sum (length l) (λ k. g (entry l k) -ℤ f (entry l k))
  sum-change-list f g h = sum-change (listed-list l low distinct) f g (λ i u. at i u (some_or_none i l))
    where
      at : (i : ℕ) → i < n → Some i l ⊎ None i l → (g i ≡ f i) ⊎ On (length l) (entry l) i
      at i u (inl s) = inr (on_list l s)
      at i u (inr o) = inl (h i u o)

-- just three summands that are not zero
pub sum-three : {n a b c : ℕ} (f : ℕ → ℤ) → a < n → b < n → c < n → a ≢ b → a ≢ c → b ≢ c
    → ((i : ℕ) → i < n → i ≢ a → i ≢ b → i ≢ c → f i ≡ pos zero) → sum n f ≡ f a +ℤ f b +ℤ f c
unfolding sum
sum-three {n} {a} {b} {c} f la lb lc ab ac bc h =
    sum-along-list (a ∷ b ∷ c ∷ []) (la, (lb, (lc, tt))) ((ab, (ac, tt)), ((bc, tt), (tt, tt))) f (λ i u o. h i u o.0 o.1.0 o.1.1.0)
    ∙ ap (λ (x : ℤ). x +ℤ f b +ℤ f c) (+ℤ_idl (f a))

-- a summand changed at one index, and at two
pub sum-change-one : {n a : ℕ} (f g : ℕ → ℤ) → a < n → ((i : ℕ) → i < n → i ≢ a → g i ≡ f i) → sum n g ≡ sum n f +ℤ (g a -ℤ f a)
unfolding sum
sum-change-one {n} {a} f g l h = sum-change-list (a ∷ []) (l, tt) (tt, tt) f g (λ i u o. h i u o.0) ∙ ap (λ (x : ℤ). sum n f +ℤ x) (+ℤ_idl (g a -ℤ f a))

pub sum-change-two : {n a b : ℕ} (f g : ℕ → ℤ) → a < n → b < n → a ≢ b
    → ((i : ℕ) → i < n → i ≢ a → i ≢ b → g i ≡ f i) → sum n g ≡ sum n f +ℤ ((g a -ℤ f a) +ℤ (g b -ℤ f b))
unfolding sum
sum-change-two {n} {a} {b} f g la lb ab h =
    sum-change-list (a ∷ b ∷ []) (la, (lb, tt)) ((ab, tt), (tt, tt)) f g (λ i u o. h i u o.0 o.1.0)
    ∙ ap (λ (x : ℤ). sum n f +ℤ (x +ℤ (g b -ℤ f b))) (+ℤ_idl (g a -ℤ f a))

-- a point update
pub sum-put : {n k : ℕ} (f : ℕ → ℤ) (v : ℤ) → k < n → sum n (put f k v) ≡ sum n f -ℤ f k +ℤ v
sum-put {n} {k} f v l =
    sum-change-one f (put f k v) l (λ i m d. put_other f k v i d) ∙ ap (λ (x : ℤ). sum n f +ℤ (x -ℤ f k)) (put_same f k v)
    ∙ ring (sum n f ∷ f k ∷ v ∷ []) (v0 ⊕ (v2 ⊖ v1)) (v0 ⊖ v1 ⊕ v2) refl

-- ---- over a list, one of whose entries is stored to
pub sum-set : {A : Type 0} {n k : ℕ} (F : ℕ → A → ℤ) (l : List A) (d v : A) → k < n → n ≤ length l
    → sum n (λ i. F i (get_or (set l k v) i d)) ≡ sum n (λ i. F i (get_or l i d)) +ℤ (F k v -ℤ F k (get_or l k d))
sum-set {A} {n} {k} F l d v u w =
    sum-change-one (λ i. F i (get_or l i d)) (λ i. F i (get_or (set l k v) i d)) u (λ i m q. ap (F i) (get_or-set_other l k i v d q))
    ∙ ap (λ (x : A). sum n (λ i. F i (get_or l i d)) +ℤ (F k x -ℤ F k (get_or l k d))) (get_or-set_same l k v d (le_trans u w))

-- ---- signs, in the order that the code's comparisons leave (`lib.Signed`)
pub sum-positive : (n : ℕ) (f : ℕ → ℤ) → 0 < n → ((i : ℕ) → i < n → pos zero <ℤ f i) → pos zero <ℤ sum n f
unfolding sum
sum-positive zero f l h = absurd (omega arith)
sum-positive (suc zero) f l h = subst (λ (z : ℤ). pos zero <ℤ z) (sym (+ℤ_idl (f zero))) (h zero l)
sum-positive (suc (suc n)) f l h = add-0< (sum-positive (suc n) f (omega arith) (λ i m. h i (omega arith))) (lt-le (h (suc n) (le_refl (suc (suc n)))))

pub sum_nonneg : (n : ℕ) (f : ℕ → ℤ) → ((i : ℕ) → i < n → pos zero ≤ℤ f i) → pos zero ≤ℤ sum n f
unfolding sum
sum_nonneg zero f h = ≤ℤ_refl (pos zero)
sum_nonneg (suc n) f h = add-0≤ (sum_nonneg n f (λ i l. h i (omega arith))) (h n (le_refl (suc n)))

-- ---- a count is a sum of the numbers of its tests
pub count-sum : (n : ℕ) (p : ℕ → Bool) → pos (count n p) ≡ sum n (λ i. pos (bit (p i)))
unfolding sum count
count-sum zero p = refl
count-sum (suc n) p = ap pos (add_comm (bit (p n)) (count n p)) ∙ ap (λ (x : ℤ). x +ℤ pos (bit (p n))) (count-sum n p)

-- those that pass are listed: the count is the list's length
pub count-listed : {n h : ℕ} {l : ℕ → ℕ} → Listed n h l → (p : ℕ → Bool) → ((k : ℕ) → k < h → T (p (l k)))
    → ((i : ℕ) → i < n → T (p i) → On h l i) → count n p ≡ h
count-listed {n} {h} {l} ls p pass cover = whole (count-sum n p
    ∙ sum-along ls (λ i. pos (bit (p i))) (λ i m. at i m (p i) refl)
    ∙ sum-ext h (λ k m. ap pos (bit-yes (p (l k)) (pass k m)))
    ∙ sum-const h 1)
  where
    at : (i : ℕ) → i < n → (t : Bool) → p i ≡ t → (pos (bit (p i)) ≡ pos zero) ⊎ On h l i
    at i m true e = inr (cover i m (subst T (sym e) tt))
    at i m false e = inl (ap (λ (t : Bool). pos (bit t)) e)

    whole : pos (count n p) ≡ pos (h * 1) → count n p ≡ h
    whole e = let q = ap nat_abs e in omega arith

-- ---- sizes
pub sum-small : (n B : ℕ) (f : ℕ → ℤ) → ((i : ℕ) → i < n → nat_abs (f i) ≤ B) → nat_abs (sum n f) ≤ n * B
unfolding sum
sum-small zero B f h = omega arith
sum-small (suc n) B f h =
    le_trans (nat_abs-+ (sum n f) (f n))
    (le_trans (add-le-add (sum-small n B f (λ i l. h i (omega arith))) (h n (omega arith))) (le_of_eq (sym (suc-mul n B))))

-- ---- a sum of natural numbers
pub sum-natural : (n : ℕ) (f : ℕ → ℕ) → pos (nat_abs (sum n (λ i. pos (f i)))) ≡ sum n (λ i. pos (f i))
sum-natural n f = abs-0≤ (sum_nonneg n (λ i. pos (f i)) (λ i l. le_z_yes (le→leb 0 (f i) zero-le)))

pub sum-last : (n : ℕ) (f : ℕ → ℕ) → nat_abs (sum (suc n) (λ i. pos (f i))) ≡ nat_abs (sum n (λ i. pos (f i))) + f n
unfolding sum
sum-last n f = ap (λ (z : ℤ). nat_abs (z +ℤ pos (f n))) (sym (sum-natural n f))

-- each summand is at most one more
pub sum_more : (n : ℕ) (f g : ℕ → ℕ) → ((i : ℕ) → f i ≤ g i + 1)
    → nat_abs (sum n (λ i. pos (f i))) ≤ nat_abs (sum n (λ i. pos (g i))) + n
unfolding sum
sum_more zero f g h = omega arith
sum_more (suc n) f g h =
    let a = sum-last n f in let b = sum-last n g in let c = sum_more n f g h in let d = h n in
    le_trans (le_of_eq a) (le_trans (more _ _ _ _ _ c d) (le_of_eq (ap (λ (k : ℕ). k + suc n) (sym b))))
  where
    more : (x y u v n : ℕ) → x ≤ y + n → u ≤ v + 1 → x + u ≤ y + v + suc n
    more x y u v n c d = omega arith
