-- Stores into the row of answers, and zeros over a part of it. Assumes nothing.
use Rattle.std.specs.Prelude.{Bool, ◌&&◌, List, [], ◌∷◌, ◌++◌, ◌≢◌, ◌≡◌, eqb, leb, length, get_or, take, drop, replicate}
use Rattle.std.proofs.Math.Bool.{true, false, cond}
use Rattle.std.proofs.Math.Path.{refl, sym, ap, fun_ext}
use Rattle.std.proofs.Common.{◌∙◌}
use Rattle.std.proofs.lemmas.List.{length-take-le, length-replicate, get_or-replicate, get_or_append_left, get_or-append_right, get_or-take, get_or-drop, get_or_past}
use borrow.Rule.Slice.PartMut.{put_mid}
use Prim.Native.Nat.{ℕ, zero, suc, ◌+◌, ◌-◌, ◌*◌, ◌/◌, ◌%◌, ◌<◌, ◌≤◌}
use Rattle.std.proofs.Math.Decide.{ℕ_discrete, dec_lt}
use native.Mathlib.Omega.{arith}
use borrow.Author.Tests.{eq-eqb, ne_eqb, lt-ltb, le-ltb, le-leb, lt-leb}
use Rattle.std.proofs.Math.Dec.{ltb}
use Rattle.dcel.specs.Rows.{row_of}
use Rattle.decide.specs.Decide.{fate_number, fate_vertex}
use Rattle.sweep.specs.declared.Answer.{Answer}
use Rattle.sweep.specs.Run.{answer_words, answer_word}
use Rattle.mesh.specs.declared.Counts.{Counts}
use Rattle.skipped.specs.Insert.{Inserting, position_fate, position_vertex}
use Rattle.skipped.specs.Fill.{insert_word}
use Rattle.answers.specs.AnswerRows.{words_of, with_words, skipped_number, skipped_in, skipped_zero, zeroed_at, Zeroed, SkippedZeroed}

-- ---- a write to a part of a row
pub in-part : (l : List ℕ) (a k : ℕ) (ys : List ℕ) → length ys ≡ k → a + k ≤ length l → (x : ℕ)
    → get_or (put_mid a k l ys) x 0 ≡ cond (leb a x && ltb x (a + k)) (get_or ys (x - a) 0) (get_or l x 0)
in-part l a k ys n m x = go (dec_lt x a) (dec_lt x (a + k))
  where
    post : List ℕ
    post = drop k (drop a l)

    past : a ≤ x → get_or (put_mid a k l ys) x 0 ≡ get_or (ys ++ post) (x - a) 0
    past p = get_or-append_right (take a l) (ys ++ post) a x 0 (length-take-le a l (omega arith)) p

    go : Dec (x < a) → Dec (x < a + k) → get_or (put_mid a k l ys) x 0 ≡ cond (leb a x && ltb x (a + k)) (get_or ys (x - a) 0) (get_or l x 0)
    go (yes p) d =
        let t : length (take a l) ≡ a = length-take-le a l (omega arith) in
        get_or_append_left (take a l) (ys ++ post) 0 x (omega arith) ∙ get_or-take a l x 0 p ∙ sym (rw (lt-leb a x p) refl)
    go (no p) (yes q) =
        let z : a ≤ x = omega arith in
        past z ∙ get_or_append_left ys post 0 (x - a) (omega arith) ∙ sym (rw (le-leb a x z, lt-ltb x (a + k) q) refl)
    go (no p) (no q) =
        let z : a ≤ x = omega arith in
        let e : a + (k + (x - a - k)) ≡ x = omega arith in
        past z ∙ get_or-append_right ys post k (x - a) 0 n (omega arith)
        ∙ get_or-drop k (drop a l) (x - a - k) 0 ∙ get_or-drop a l (k + (x - a - k)) 0 ∙ ap (λ (j : ℕ). get_or l j 0) e
        ∙ sym (rw (le-leb a x z, le-ltb x (a + k) (omega arith)) refl)

pub short-test : (n k : ℕ) → ltb (n / answer_words) k ≡ ltb n (answer_words * k)
short-test n k = go (dec_lt n (answer_words * k))
  where
    go : Dec (n < answer_words * k) → ltb (n / answer_words) k ≡ ltb n (answer_words * k)
    go (yes b) = lt-ltb (n / answer_words) k (omega arith) ∙ sym (lt-ltb n (answer_words * k) b)
    go (no b) = le-ltb (n / answer_words) k (omega arith) ∙ sym (le-ltb n (answer_words * k) (omega arith))

-- the words of an answer, one after another
word-in : (fate vertex faces flips k : ℕ) → k < answer_words
    → get_or (fate ∷ vertex ∷ faces ∷ flips ∷ []) k 0 ≡ words_of fate vertex faces flips k
unfolding words_of
word-in fate vertex faces flips zero l = refl
word-in fate vertex faces flips (suc zero) l = refl
word-in fate vertex faces flips (suc (suc zero)) l = refl
word-in fate vertex faces flips (suc (suc (suc zero))) l = refl
word-in fate vertex faces flips (suc (suc (suc (suc k)))) l = absurd (omega arith)

pub stored-part : (l zs : List ℕ) (i k fate vertex faces flips : ℕ) → answer_words * i + answer_words ≤ length l → k ≡ answer_words
    → zs ≡ fate ∷ vertex ∷ faces ∷ flips ∷ []
    → row_of (put_mid (answer_words * i) k l zs) ≡ with_words (row_of l) i (words_of fate vertex faces flips)
unfolding row_of with_words
stored-part l zs i k fate vertex faces flips h m d =
    rw (m, d) (fun_ext (λ x. in-part l (answer_words * i) answer_words ys refl h x ∙ go x (ℕ_discrete (x / answer_words) i)))
  where
    ys : List ℕ
    ys = fate ∷ vertex ∷ faces ∷ flips ∷ []

    go : (x : ℕ) → Dec (x / answer_words ≡ i)
        → cond (leb (answer_words * i) x && ltb x (answer_words * i + answer_words)) (get_or ys (x - answer_words * i) 0) (get_or l x 0)
        ≡ cond (eqb (x / answer_words) i) (words_of fate vertex faces flips (x % answer_words)) (get_or l x 0)
    go x (yes e) =
        let k : x - answer_words * i ≡ x % answer_words = omega arith in
        rw (le-leb (answer_words * i) x (omega arith), lt-ltb x (answer_words * i + answer_words) (omega arith), eq-eqb (x / answer_words) i e)
        (ap (λ (j : ℕ). get_or ys j 0) k ∙ word-in fate vertex faces flips (x % answer_words) (omega arith))
    go x (no n) = rw (ne_eqb (x / answer_words) i n) (out (dec_lt x (answer_words * i)))
      where
        out : Dec (x < answer_words * i)
            → cond (leb (answer_words * i) x && ltb x (answer_words * i + answer_words)) (get_or ys (x - answer_words * i) 0) (get_or l x 0) ≡ get_or l x 0
        out (yes b) = rw (lt-leb (answer_words * i) x b) refl
        out (no b) = rw (le-leb (answer_words * i) x (omega arith), le-ltb x (answer_words * i + answer_words) (omega arith)) refl

-- the four words of a step's answer, and of an insertion's
pub answer-words : (r : Answer) (k : ℕ) → answer_word r k ≡ words_of (fate_number r.fate) (fate_vertex r.fate) r.faces r.flips k
unfolding answer_word words_of
answer-words r zero = refl
answer-words r (suc zero) = refl
answer-words r (suc (suc zero)) = refl
answer-words r (suc (suc (suc k))) = refl

pub insert-words : (C : Counts) (t : Inserting) (k : ℕ)
    → insert_word C t k ≡ words_of (position_fate t.place) (position_vertex C t.place) t.mesh.faces t.mesh.flips k
unfolding insert_word words_of
insert-words C t zero = refl
insert-words C t (suc zero) = refl
insert-words C t (suc (suc zero)) = refl
insert-words C t (suc (suc (suc k))) = refl

pub with_words-ext : (row : ℕ → ℕ) (i : ℕ) (f g : ℕ → ℕ) → ((k : ℕ) → f k ≡ g k) → (x : ℕ) → with_words row i f x ≡ with_words row i g x
unfolding with_words
with_words-ext row i f g e x = rw (e (x % answer_words)) refl

-- ---- zeros
zero-at : (n k : ℕ) → get_or (replicate n zero) k zero ≡ zero
zero-at n k = go (dec_lt k n)
  where
    go : Dec (k < n) → get_or (replicate n zero) k zero ≡ zero
    go (yes b) = get_or-replicate n k zero zero b
    go (no b) = let e = length-replicate n zero in get_or_past (replicate n zero) k zero (omega arith)

pub zeroed : (l zs : List ℕ) (from to : ℕ) → from ≤ to → to ≤ length l → zs ≡ replicate (to - from) zero
    → Zeroed l (put_mid from (to - from) l zs) from to
unfolding row_of
zeroed l zs from to p q e = record {
  each = λ x.
      in-part l from (to - from) zs (ap length e ∙ length-replicate (to - from) zero) (omega arith) x
      ∙ rw (e, zero-at (to - from) (x - from), end) refl;
}
  where
    end : from + (to - from) ≡ to
    end = omega arith

none : (from y : ℕ) → (leb from y && ltb y from) ≡ false
none from y = go (dec_lt y from)
  where
    go : Dec (y < from) → (leb from y && ltb y from) ≡ false
    go (yes b) = rw (lt-leb from y b) refl
    go (no b) = let z : from ≤ y = omega arith in rw (le-leb from y z, le-ltb y from z) refl

-- ---- zeros for skipped points
zero-words : (k : ℕ) → words_of 0 0 0 0 k ≡ 0
unfolding words_of
zero-words zero = refl
zero-words (suc zero) = refl
zero-words (suc (suc zero)) = refl
zero-words (suc (suc (suc k))) = refl

pub record SkippedZeroing (row row' : List ℕ) (from to i : ℕ) : Type 0 where
  pub each : (x : ℕ) → row_of row' x ≡ skipped_zero (row_of row) from i x
  pub low : from ≤ i
  pub high : i ≤ to
  pub room : answer_words * to ≤ length row
  pub same : length row' ≡ length row

pub skipped-starts : (row : List ℕ) {from to : ℕ} → from ≤ to → answer_words * to ≤ length row → SkippedZeroing row row from to from
unfolding skipped_zero
skipped-starts row {from} l m = record {
  each = λ x. rw (none from (x / answer_words)) refl;
  low = omega arith;
  high = l;
  room = m;
  same = refl;
}

module _ {row row' : List ℕ} {from to i : ℕ} (Z : SkippedZeroing row row' from to i) where
  -- point i is as it was
  here : skipped_in (row_of row') i ≡ skipped_in (row_of row) i
  unfolding skipped_zero
  here =
      let k : (answer_words * i) / answer_words ≡ i = omega arith in
      ap skipped_number (Z.each (answer_words * i) ∙ rw (k, le-ltb i i (omega arith)) (go (leb from i)))
    where
      go : (b : Bool) → cond ((b && false) && skipped_in (row_of row) i) 0 (row_of row (answer_words * i)) ≡ row_of row (answer_words * i)
      go true = refl
      go false = refl

  more : (x : ℕ) → x / answer_words ≢ i → skipped_zero (row_of row) from (i + 1) x ≡ skipped_zero (row_of row) from i x
  unfolding skipped_zero
  more x d = rw (later (dec_lt (x / answer_words) i)) refl
    where
      later : Dec (x / answer_words < i) → ltb (x / answer_words) (i + 1) ≡ ltb (x / answer_words) i
      later (yes b) = lt-ltb (x / answer_words) (i + 1) (omega arith) ∙ sym (lt-ltb (x / answer_words) i b)
      later (no b) = le-ltb (x / answer_words) (i + 1) (omega arith) ∙ sym (le-ltb (x / answer_words) i (omega arith))

  at_last : (x : ℕ) {b : Bool} → x / answer_words ≡ i → skipped_in (row_of row) i ≡ b
      → skipped_zero (row_of row) from (i + 1) x ≡ cond b 0 (row_of row x)
  unfolding skipped_zero
  at_last x e s = rw (e, le-leb from i Z.low, lt-ltb i (i + 1) (omega arith), s) refl

  unpast : (x : ℕ) → x / answer_words ≡ i → skipped_zero (row_of row) from i x ≡ row_of row x
  unfolding skipped_zero
  unpast x d = rw (d, le-ltb i i (omega arith)) (go (leb from i))
    where
      go : (b : Bool) → cond ((b && false) && skipped_in (row_of row) i) 0 (row_of row x) ≡ row_of row x
      go true = refl
      go false = refl

  -- one more
  step : (b : Bool) → skipped_in (row_of row) i ≡ b → (x : ℕ)
      → cond b (with_words (row_of row') i (words_of 0 0 0 0)) (row_of row') x ≡ skipped_zero (row_of row) from (i + 1) x
  unfolding with_words
  step b q x = go b q (ℕ_discrete (x / answer_words) i)
    where
      go : (b : Bool) → skipped_in (row_of row) i ≡ b → Dec (x / answer_words ≡ i)
          → cond b (with_words (row_of row') i (words_of 0 0 0 0)) (row_of row') x ≡ skipped_zero (row_of row) from (i + 1) x
      go true q (yes d) = rw (eq-eqb (x / answer_words) i d) (zero-words (x % answer_words) ∙ sym (at_last x {b = true} d q))
      go true q (no d) = rw (ne_eqb (x / answer_words) i d) (Z.each x ∙ sym (more x d))
      go false q (yes d) = Z.each x ∙ unpast x d ∙ sym (at_last x {b = false} d q)
      go false q (no d) = Z.each x ∙ sym (more x d)

  pub skipped-on : i < to → (w : List ℕ) → row_of w ≡ zeroed_at (row_of row') i → length w ≡ length row'
      → SkippedZeroing row w from to (i + 1)
  unfolding zeroed_at
  skipped-on l w e n = record {
    each = λ x. ap (λ (f : ℕ → ℕ). f x) e
        ∙ ap (λ (b : Bool). cond b (with_words (row_of row') i (words_of 0 0 0 0)) (row_of row') x) here
        ∙ step (skipped_in (row_of row) i) refl x;
    low = let a = Z.low in omega arith;
    high = omega arith;
    room = Z.room;
    same = n ∙ Z.same;
  }

  pub skipped-end : to ≤ i → SkippedZeroed row row' from to
  skipped-end l = let z : i ≡ to = (let h = Z.high in omega arith) in record { each = λ x. Z.each x ∙ rw z refl }
