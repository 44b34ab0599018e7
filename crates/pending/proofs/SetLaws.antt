-- The set of the pending list's entries: an entry pushed or taken with its bit, and how a set is made. Assumes nothing.
use Rattle.std.specs.Prelude.{false, ◌≢◌, List, ◌∷◌, ◌≡◌, ℕ, zero, suc, ◌+◌, ◌-◌, ◌/◌, ◌%◌, ◌^◌, ◌≤◌, ◌<◌, eqb, length, get_or, set}
use Rattle.std.proofs.Math.Bool.{true}
use Rattle.std.proofs.lemmas.Bool.{false≢true}
use Rattle.std.proofs.Math.Path.{refl, ap, subst}
use Rattle.std.proofs.Common.{sym, ◌∙◌, get_or-set_same, get_or-set_other}
use Rattle.std.proofs.Math.Decide.{ℕ_discrete}
use Rattle.std.proofs.Math.Numerals.{add-one}
use native.Mathlib.Omega.{arith}
use Rattle.std.proofs.Math.ListN.{length-set}
use Rattle.pending.specs.declared.PendingList.{PendingList}
use Rattle.pending.specs.Pending.{pending_of, contains, push_if_not_contained, Holds}
use Rattle.pending.proofs.PendingLaws.{pending-last, pending-set, pending-push, holds, push-contained, push-missing}
use Rattle.pending.specs.Set.{bit_of, set_words, word_at, is_marked, Once, Marks, SetOf, Becomes, ToPop, LastTaken, Cleared, MarkedTo}
use Rattle.pending.proofs.BitLaws.{no_bits}
use Rattle.pending.proofs.MarkLaws.{contains-first, contains-rest, word, marked, unmarked, mark-same, mark-other, unmark-same, unmark-other, entry_other}

-- ---- from entries to lists
pub becomes : {row row' : List ℕ} {s s' : PendingList} {edges : ℕ} {f : List ℕ → List ℕ} → s.length ≤ length row → s'.length ≤ length row'
    → pending_of row' s'.length ≡ f (pending_of row s.length) → SetOf row' s' edges → Becomes row s row' s' edges f
becomes {row} {row'} {s} {s'} {edges} {f} m m' e S = record {
  list = λ l H. record { fits = λ _. e ∙ ap f (H.fits m); over = λ o. absurd (omega arith) };
  set = S;
}

-- nothing has changed
pub stays : {row : List ℕ} {s : PendingList} {edges : ℕ} → SetOf row s edges → Becomes row s row s edges (λ l. l)
stays S = record { list = λ l H. H; set = S }

-- a list that was pushed to, without a set
pub pushed-by : {row row' : List ℕ} {s s' : PendingList} {n : ℕ} {edges : ℕ} {f : List ℕ → List ℕ}
    → ((l : List ℕ) → Holds row s.length l → Holds row' n (f l)) → s'.length ≡ n → s'.set ≡ false → Becomes row s row' s' edges f
pushed-by {row' = row'} {f = f} h e z = record {
  list = λ l H. subst (λ (k : ℕ). Holds row' k (f l)) (sym e) (h l H);
  set = λ t. absurd (false≢true (sym z ∙ t));
}

-- a list whose entries stand as they stood
pub holds_kept : {row row' : List ℕ} {n : ℕ} → n ≤ length row → n ≤ length row' → pending_of row' n ≡ pending_of row n
    → (l : List ℕ) → Holds row n l → Holds row' n l
holds_kept m m' e l H = record { fits = λ _. e ∙ H.fits m; over = λ o. absurd (omega arith) }

-- a number in a set has its word in the row
pub bit_in : {row : List ℕ} {n edges x : ℕ} → Marks row n edges → x < edges → x / 32 < length row
bit_in {x = x} M l = let m = M.room in omega arith

-- ---- an entry, with its bit
module _ {row : List ℕ} {n edges : ℕ} (M : Marks row n edges) where
  -- it is not there, and there is room for it: the bit and the entry
  module _ (x : ℕ) (l : x < edges) (u : is_marked row x ≡ false) (r : n + 1 + set_words edges ≤ length row) where
    small : x / 32 < length row
    small = bit_in M l

    abbrev pushed : List ℕ
    pushed = set (set row (word_at row x) (get_or row (word_at row x) 0 + 2 ^ (x % 32))) n x

    missing : contains x (pending_of row n) ≡ false
    missing = sym (M.each x l) ∙ u

    length-is : length pushed ≡ length row
    length-is = simp length-set

    pub pushed-entries : pending_of pushed (n + 1) ≡ x ∷ pending_of row n
    pushed-entries =
        let m = length-set row (word_at row x) (get_or row (word_at row x) 0 + 2 ^ (x % 32)) in
        pending-push _ n x (omega arith)
        ∙ ap (λ (k : List ℕ). x ∷ k) (pending-set row n (word_at row x) _ (omega arith))

    pub pushed-marks : Marks pushed (n + 1) edges
    unfolding Once
    pushed-marks = record {
      room = let m = length-is in omega arith;
      once = subst Once (sym pushed-entries) (missing, M.once);
      small = λ y t. low y (ap (contains y) (sym pushed-entries) ∙ t) (ℕ_discrete y x);
      each = λ y m. outer y m ∙ at y m (ℕ_discrete y x) ∙ ap (contains y) (sym pushed-entries);
    }
      where
        low : (y : ℕ) → contains y (x ∷ pending_of row n) ≡ true → Dec (y ≡ x) → y < edges
        low y t (yes z) = omega arith
        low y t (no z) = M.small y (sym (contains-rest (pending_of row n) z) ∙ t)

        outer : (y : ℕ) → y < edges → is_marked pushed y ≡ is_marked (marked row x small) y
        outer y m = let k = length-set row (word_at row x) (get_or row (word_at row x) 0 + 2 ^ (x % 32)) in entry_other _ n x y (omega arith)

        at : (y : ℕ) → y < edges → Dec (y ≡ x) → is_marked (marked row x small) y ≡ contains y (x ∷ pending_of row n)
        at y m (yes z) = rw z (mark-same row x small u ∙ sym (contains-first x (pending_of row n)))
        at y m (no z) = mark-other row x small y z (bit_in M m) u ∙ M.each y m ∙ sym (contains-rest (pending_of row n) z)

  -- the last entry goes, with its bit
  module _ (z : 0 < n) where
    abbrev last : ℕ
    last = get_or row (n - 1) 0

    entries : pending_of row n ≡ last ∷ pending_of row (n - 1)
    entries = pending-last row n z

    last-in : contains last (pending_of row n) ≡ true
    last-in = ap (contains last) entries ∙ contains-first last (pending_of row (n - 1))

    pub last-small : last < edges
    last-small = M.small last last-in

    pub last_bit : last / 32 < length row
    last_bit = bit_in M last-small

    pub last-marked : is_marked row last ≡ true
    last-marked = M.each last last-small ∙ last-in

    -- it stands once: other numbers are in the rest where they were in the list
    rest-once : (contains last (pending_of row (n - 1)) ≡ false) × Once (pending_of row (n - 1))
    unfolding Once
    rest-once = subst Once entries M.once

    rest-each : (y : ℕ) → y ≢ last → contains y (pending_of row n) ≡ contains y (pending_of row (n - 1))
    rest-each y d = ap (contains y) entries ∙ contains-rest (pending_of row (n - 1)) d

    pub popped-entries : pending_of (unmarked row last last_bit) (n - 1) ≡ pending_of row (n - 1)
    popped-entries = let m = M.room in let s = last-small in pending-set row (n - 1) (word_at row last) _ (omega arith)

    pub popped-marks : Marks (unmarked row last last_bit) (n - 1) edges
    popped-marks = record {
      room = let m = M.room in let k = length-set row (word_at row last) (word row last - 2 ^ (last % 32)) in omega arith;
      once = subst Once (sym popped-entries) rest-once.1;
      small = λ y t. low y (ap (contains y) (sym popped-entries) ∙ t) (ℕ_discrete y last);
      each = λ y m. at y m (ℕ_discrete y last) ∙ ap (contains y) (sym popped-entries);
    }
      where
        low : (y : ℕ) → contains y (pending_of row (n - 1)) ≡ true → Dec (y ≡ last) → y < edges
        low y t (yes e) = let s = last-small in omega arith
        low y t (no e) = M.small y (rest-each y e ∙ t)

        at : (y : ℕ) → y < edges → Dec (y ≡ last) → is_marked (unmarked row last last_bit) y ≡ contains y (pending_of row (n - 1))
        at y m (yes e) = rw e (unmark-same row last last_bit last-marked ∙ sym rest-once.0)
        at y m (no e) = unmark-other row last last_bit y e (bit_in M m) last-marked ∙ M.each y m ∙ rest-each y e

-- ---- the last entry is taken
module _ {row : List ℕ} {s : PendingList} {edges : ℕ} (P : ToPop row s edges) where
  abbrev taken : ℕ
  taken = get_or row (s.length - 1) 0

  abbrev left : PendingList
  left = record { length = s.length - 1; looks = s.looks; set = s.set }

  -- there was none
  pub pop-plain : s.set ≡ false → LastTaken row s row taken left edges
  pop-plain e = record {
    entry = pending-last row s.length P.some;
    rest = let f = P.fits in holds row (s.length - 1) (omega arith);
    set = λ t. absurd (false≢true (sym e ∙ t));
  }

  module _ (t : s.set ≡ true) where
    pub pop-marked : (taken / 32 < length row) × (is_marked row taken ≡ true)
    pop-marked = (last_bit (P.set t) P.some, last-marked (P.set t) P.some)

    pub pop-bit : {row' : List ℕ} → row' ≡ set row (word_at row taken) (get_or row (word_at row taken) 0 - 2 ^ (taken % 32))
        → LastTaken row s row' taken left edges
    pop-bit {row'} e =
        let M = popped-marks (P.set t) P.some in let r = M.room in
        let row'' = unmarked row taken (last_bit (P.set t) P.some) in
        subst (λ (r : List ℕ). LastTaken row s r taken left edges) (sym e) (record {
          entry = pending-last row s.length P.some;
          rest = subst (Holds row'' (s.length - 1)) (popped-entries (P.set t) P.some) (holds row'' (s.length - 1) (omega arith));
          set = λ _. M;
        })

-- ---- an entry that may be there
module _ {row : List ℕ} {s : PendingList} (m : s.length ≤ length row) (x : ℕ) where
  push-new : contains x (pending_of row s.length) ≡ false → {row' : List ℕ} {s' : PendingList} {edges : ℕ}
      → Becomes row s row' s' edges (λ l. x ∷ l) → Becomes row s row' s' edges (push_if_not_contained x)
  push-new e {row'} {s'} B = record {
    list = λ l H. subst (Holds row' s'.length) (sym (push-missing x l (ap (contains x) (sym (H.fits m)) ∙ e))) (B.list l H);
    set = B.set;
  }

-- by the set
module _ {row : List ℕ} (s : PendingList) {edges : ℕ} (M : Marks row s.length edges) where
  pub set_room : s.length ≤ length row
  set_room = let m = M.room in omega arith

  -- it is there
  pub set_there : (x : ℕ) → x < edges → is_marked row x ≡ true → Becomes row s row s edges (push_if_not_contained x)
  set_there x l u = becomes set_room set_room (sym (push-contained x (pending_of row s.length) (sym (M.each x l) ∙ u))) (λ _. M)

  -- it is not, and the set is given up
  pub set-given-up : (x : ℕ) → x < edges → is_marked row x ≡ false → {row' : List ℕ} {s' : PendingList}
      → Becomes row s row' s' edges (λ l. x ∷ l) → Becomes row s row' s' edges (push_if_not_contained x)
  set-given-up x l u B = push-new set_room x (sym (M.each x l) ∙ u) B

  -- with its bit
  pub push-bit : (x : ℕ) → x < edges → is_marked row x ≡ false → set_words edges < length row - s.length → {row' : List ℕ}
      → row' ≡ set row (word_at row x) (get_or row (word_at row x) 0 + 2 ^ (x % 32))
      → Becomes row s (set row' s.length x) (record { length = s.length + 1; looks = s.looks; set = s.set }) edges (push_if_not_contained x)
  push-bit x l u r {row'} e =
      let N = pushed-marks M x l u (omega arith) in let k = N.room in
      let s' : PendingList = record { length = s.length + 1; looks = s.looks; set = s.set } in
      subst (λ (r : List ℕ). Becomes row s (set r s.length x) s' edges (push_if_not_contained x)) (sym e)
      (set-given-up x l u (becomes set_room (omega arith) (pushed-entries M x l u (omega arith)) (λ _. N)))

-- ---- a set is made
pub clear-starts : (row : List ℕ) (from : ℕ) → Cleared row row from from
clear-starts row from = record { same = refl; before = λ i l. refl; zeros = λ i a b. absurd (omega arith) }

pub clear-more : {row row' : List ℕ} {from i : ℕ} → Cleared row row' from i → from ≤ i → i < length row' → Cleared row (set row' i 0) from (i + 1)
clear-more {row} {row'} {from} {i} K u l = record {
  same = length-set row' i 0 ∙ K.same;
  before = λ j m. get_or-set_other row' i j 0 0 (omega arith) ∙ K.before j m;
  zeros = λ j a b. at j a b (ℕ_discrete j i);
}
  where
    at : (j : ℕ) → from ≤ j → j < i + 1 → Dec (j ≡ i) → get_or (set row' i 0) j 0 ≡ 0
    at j a b (yes e) = rw e (get_or-set_same row' i 0 0 l)
    at j a b (no e) = get_or-set_other row' i j 0 0 (omega arith) ∙ K.zeros j a (omega arith)

pub clear-ends : {row row' : List ℕ} {from i : ℕ} → Cleared row row' from i → i ≤ length row → length row' ≤ i
    → Cleared row row' from (length row)
clear-ends {row} {row'} {from} {i} K u l = record { same = K.same; before = K.before; zeros = λ j a b. let e = K.same in K.zeros j a (omega arith) }

-- rows with the same entries
pub entries-same : (row row' : List ℕ) (n : ℕ) → ((i : ℕ) → i < n → get_or row' i 0 ≡ get_or row i 0) → pending_of row' n ≡ pending_of row n
unfolding pending_of
entries-same row row' zero e = refl
entries-same row row' (suc n) e = rw (e n (omega arith), entries-same row row' n (λ i l. e i (omega arith))) refl

-- words of zeros are a set of no entries
pub marks-start : {row row' : List ℕ} {from n edges : ℕ} → Cleared row row' from (length row) → n ≤ from → from + set_words edges ≡ length row
    → MarkedTo row' row' 0 n edges × (pending_of row' n ≡ pending_of row n)
unfolding is_marked Once pending_of contains
marks-start {row} {row'} {from} {n} {edges} K u e = (
  record {
    same = refl;
    most = omega arith;
    kept = refl;
    room = let m = K.same in omega arith;
    once = tt;
    small = λ x t. absurd (false≢true t);
    each = λ x l. let m = K.same in
        ap (λ (w : ℕ). eqb (bit_of w (x % 32)) 1) (K.zeros (word_at row' x) (omega arith) (omega arith))
        ∙ ap (λ (b : ℕ). eqb b 1) (no_bits (x % 32));
  },
  entries-same row row' n (λ i l. K.before i (omega arith)),
)

module _ {row row' : List ℕ} {i n edges : ℕ} (K : MarkedTo row row' i n edges) where
  pub word_in : {x : ℕ} → x < edges → x / 32 < length row'
  word_in {x} l = let r = K.room in let s = K.same in omega arith

  -- the next entry
  abbrev next : ℕ
  next = get_or row' i 0

  module _ (l : i < n) (m : next < edges) (u : is_marked row' next ≡ false) where
    abbrev row'' : List ℕ
    row'' = set row' (word_at row' next) (get_or row' (word_at row' next) 0 + 2 ^ (next % 32))

    entries-kept : (k : ℕ) → k ≤ n → pending_of row'' k ≡ pending_of row' k
    entries-kept k v = let r = K.room in let s = K.same in pending-set row' k (word_at row' next) _ (omega arith)

    one_more : pending_of row'' (i + 1) ≡ next ∷ pending_of row' i
    unfolding pending_of
    one_more = entries-kept (i + 1) (omega arith) ∙ rw add-one refl

    marks-more : MarkedTo row row'' (i + 1) n edges
    unfolding Once
    marks-more = record {
      same = length-set row' (word_at row' next) _ ∙ K.same;
      most = omega arith;
      kept = entries-kept n (omega arith) ∙ K.kept;
      room = K.room;
      once = subst Once (sym one_more) (sym (K.each next m) ∙ u, K.once);
      small = λ y t. low y (ap (contains y) (sym one_more) ∙ t) (ℕ_discrete y next);
      each = λ y v. at y v (ℕ_discrete y next) ∙ ap (contains y) (sym one_more);
    }
      where
        low : (y : ℕ) → contains y (next ∷ pending_of row' i) ≡ true → Dec (y ≡ next) → y < edges
        low y t (yes e) = omega arith
        low y t (no e) = K.small y (sym (contains-rest (pending_of row' i) e) ∙ t)

        at : (y : ℕ) → y < edges → Dec (y ≡ next) → is_marked row'' y ≡ contains y (next ∷ pending_of row' i)
        at y v (yes e) = rw e (mark-same row' next (word_in m) u ∙ sym (contains-first next (pending_of row' i)))
        at y v (no e) =
            mark-other row' next (word_in m) y e (word_in v) u ∙ K.each y v ∙ sym (contains-rest (pending_of row' i) e)

    pub marked_next : {row''' : List ℕ} → row''' ≡ row'' → MarkedTo row row''' (i + 1) n edges
    marked_next e = rw e marks-more

  -- all of them
  pub marks-end : n ≤ i → Marks row' n edges
  marks-end l = subst (λ (k : ℕ). Marks row' k edges) (let m = K.most in same_number m l) (record {
    room = let m = K.most in let r = K.room in let s = K.same in omega arith;
    once = K.once;
    small = K.small;
    each = K.each;
  })
    where
      same_number : {a b : ℕ} → a ≤ b → b ≤ a → a ≡ b
      same_number l m = omega arith

-- the entries are as they were, with a set of them
pub set-made : {row row' : List ℕ} {s : PendingList} {edges looks : ℕ} → s.length ≤ length row
    → pending_of row' s.length ≡ pending_of row s.length → Marks row' s.length edges
    → Becomes row s row' (record { length = s.length; looks = looks; set = true }) edges (λ l. l)
set-made m e M = let r = M.room in becomes m (omega arith) e (λ _. M)
