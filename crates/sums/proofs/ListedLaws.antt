-- Laws of specs/Listed.antt.
use Rattle.std.specs.Prelude.{◌≡◌, refl, ◌≢◌, List, [], ◌∷◌, cond, ℕ, zero, suc, ◌+◌, ◌-◌, ◌<◌, ◌≤◌, ltb, length, get_or}
use Rattle.std.proofs.Common.{sym, ◌∙◌, ap, inl, inr, le_refl, le_trans, arith, lt-ltb, le-ltb}
use Rattle.std.proofs.Math.Decide.{ℕ_discrete, dec_lt}
use Rattle.sums.proofs.Cases.{All, Some, Distinct}
use Rattle.sums.specs.Listed.{Listed}

-- i is on the list
abbrev pub On : ℕ → (ℕ → ℕ) → ℕ → Type 0
On h p i = (k : ℕ) × (k < h) × (p k ≡ i)

-- the first of a list
pub listed-first : {n h : ℕ} {p : ℕ → ℕ} (m : ℕ) → m ≤ h → Listed n h p → Listed n m p
listed-first m l P = record { below = λ k u. P.below k (omega arith); once = λ j k u v. P.once j k (omega arith) (omega arith) }

-- a list of indices below n is one below what is larger
pub listed-up : {n m h : ℕ} {p : ℕ → ℕ} → n ≤ m → Listed n h p → Listed m h p
listed-up l P = record { below = λ k u. le_trans (P.below k u) l; once = P.once }

-- ---- a list that is written out: `entry l k` is its number at k, and 0 past its end
abbrev pub entry : List ℕ → ℕ → ℕ
entry l k = get_or l k 0

pub all-entry : (P : ℕ → Type 0) (l : List ℕ) → All P l → (k : ℕ) → k < length l → P (entry l k)
all-entry P [] p k u = absurd (omega arith)
all-entry P (a ∷ l) p zero u = p.0
all-entry P (a ∷ l) p (suc k) u = all-entry P l p.1 k (omega arith)

pub listed-list : {n : ℕ} (l : List ℕ) → All (λ a. a < n) l → Distinct l → Listed n (length l) (entry l)
listed-list {n} l low d = record { below = all-entry (λ a. a < n) l low; once = once l d }
  where
    once : (l : List ℕ) → Distinct l → (j k : ℕ) → j < length l → k < length l → entry l j ≡ entry l k → j ≡ k
    once [] d j k u v e = absurd (omega arith)
    once (a ∷ l) d zero zero u v e = refl
    once (a ∷ l) d zero (suc k) u v e = absurd (all-entry (λ b. a ≢ b) l d.0 k (omega arith) e)
    once (a ∷ l) d (suc j) zero u v e = absurd (all-entry (λ b. a ≢ b) l d.0 j (omega arith) (sym e))
    once (a ∷ l) d (suc j) (suc k) u v e = ap suc (once l d.1 j k (omega arith) (omega arith) e)

pub on_list : (l : List ℕ) {i : ℕ} → Some i l → On (length l) (entry l) i
on_list [] s = absurd s
on_list (a ∷ l) (inl e) = (0, (omega arith), sym e)
on_list (a ∷ l) (inr s) = let o = on_list l s in (suc o.0, (let u = o.1 in omega arith), o.2)

-- ---- two lists of indices, one after the other
abbrev pub join : ℕ → (ℕ → ℕ) → (ℕ → ℕ) → ℕ → ℕ
join h p q k = cond (ltb k h) (p k) (q (k - h))

pub listed-join : {n h m : ℕ} {p q : ℕ → ℕ} → Listed n h p → Listed n m q → ((j k : ℕ) → j < h → k < m → p j ≢ q k)
    → Listed n (h + m) (join h p q)
listed-join {n} {h} {m} {p} {q} P Q apart = record { below = λ k u. low k u (dec_lt k h); once = λ j k u v e. one j k u v (dec_lt j h) (dec_lt k h) e }
  where
    first : (k : ℕ) → k < h → join h p q k ≡ p k
    first k u = rw (lt-ltb k h u)

    second : (k : ℕ) → ¬ (k < h) → join h p q k ≡ q (k - h)
    second k u = rw (le-ltb k h (omega arith))

    low : (k : ℕ) → k < h + m → Dec (k < h) → join h p q k < n
    low k u (yes v) = rw (first k v) (P.below k v)
    low k u (no v) = rw (second k v) (Q.below (k - h) (omega arith))

    one : (j k : ℕ) → j < h + m → k < h + m → Dec (j < h) → Dec (k < h) → join h p q j ≡ join h p q k → j ≡ k
    one j k u v (yes a) (yes b) e = P.once j k a b (sym (first j a) ∙ e ∙ first k b)
    one j k u v (yes a) (no b) e = absurd (apart j (k - h) a (omega arith) (sym (first j a) ∙ e ∙ second k b))
    one j k u v (no a) (yes b) e = absurd (apart k (j - h) b (omega arith) (sym (first k b) ∙ sym e ∙ second j a))
    one j k u v (no a) (no b) e = let r = Q.once (j - h) (k - h) (omega arith) (omega arith) (sym (second j a) ∙ e ∙ second k b) in omega arith
