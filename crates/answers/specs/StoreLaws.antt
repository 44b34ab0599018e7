-- Single stores into the row of answers, one after another: the words of an answer, and zeros. Assumes nothing.
use Rattle.std.specs.Prelude.{Bool, ◌&&◌, List, ◌≢◌, ◌≡◌, eqb, leb, length, get_or, set}
use Rattle.std.proofs.Math.Bool.{true, false, cond}
use Rattle.std.proofs.Math.Path.{refl, sym, ap, fun_ext}
use Rattle.std.proofs.Common.{◌∙◌, add-zero, length-set, get_or-set_same, get_or-set_other}
use Prim.Native.Nat.{ℕ, zero, suc, ◌+◌, ◌*◌, ◌/◌, ◌%◌, ◌<◌, ◌≤◌}
use Rattle.std.proofs.Math.Decide.{ℕ_discrete, dec_lt}
use native.Mathlib.Omega.{arith}
use borrow.Author.Tests.{eq-eqb, ne_eqb, lt-ltb, le-ltb, le-leb, lt-leb}
use Rattle.std.proofs.Math.Dec.{ltb}
use Rattle.dcel.specs.Rows.{row_of}
use Rattle.sums.specs.Put.{put}
use Rattle.sums.proofs.PutLaws.{put_same, put_other}
use Rattle.decide.specs.Decide.{fate_number, fate_vertex}
use Rattle.sweep.specs.declared.Answer.{Answer}
use Rattle.sweep.specs.Run.{answer_words, answer_word}
use Rattle.mesh.specs.declared.Counts.{Counts}
use Rattle.skipped.specs.Insert.{Inserting, position_fate, position_vertex}
use Rattle.skipped.specs.Fill.{insert_word}
use Rattle.answers.specs.AnswerRows.{words_of, with_words, skipped_number, skipped_in, skipped_zero, zeroed_at, Zeroed, SkippedZeroed}

pub store-row : (l : List ℕ) (a v : ℕ) → a < length l → row_of (set l a v) ≡ put (row_of l) a v
unfolding row_of
store-row l a v h = fun_ext (λ x. go x (ℕ_discrete x a))
  where
    go : (x : ℕ) → Dec (x ≡ a) → get_or (set l a v) x 0 ≡ put (λ (y : ℕ). get_or l y 0) a v x
    go x (yes e) = rw e (get_or-set_same l a v 0 h ∙ sym (put_same (λ (y : ℕ). get_or l y 0) a v))
    go x (no n) = get_or-set_other l a x v 0 n ∙ sym (put_other (λ (y : ℕ). get_or l y 0) a v x n)

-- the words of an answer, one after another
module _ (f : ℕ → ℕ) (i fate vertex faces flips : ℕ) where
  abbrev puts : ℕ → ℕ
  puts =
      put (put (put (put f (answer_words * i) fate) (answer_words * i + 1) vertex) (answer_words * i + 2) faces)
      (answer_words * i + 3) flips

  word_at : (k : ℕ) → k < answer_words → puts (answer_words * i + k) ≡ words_of fate vertex faces flips k
  unfolding words_of
  word_at zero l =
      put_other _ _ flips _ (λ z. omega arith) ∙ put_other _ _ faces _ (λ z. omega arith)
      ∙ put_other _ _ vertex _ (λ z. omega arith)
      ∙ ap (put f (answer_words * i) fate) (add-zero (answer_words * i)) ∙ put_same f _ fate
  word_at (suc zero) l =
      put_other _ _ flips _ (λ z. omega arith) ∙ put_other _ _ faces _ (λ z. omega arith) ∙ put_same _ _ vertex
  word_at (suc (suc zero)) l = put_other _ _ flips _ (λ z. omega arith) ∙ put_same _ _ faces
  word_at (suc (suc (suc zero))) l = put_same _ _ flips
  word_at (suc (suc (suc (suc k)))) l = absurd (omega arith)

  words-at : (x : ℕ) → puts x ≡ with_words f i (words_of fate vertex faces flips) x
  unfolding with_words
  words-at x = go (ℕ_discrete (x / answer_words) i)
    where
      go : Dec (x / answer_words ≡ i)
          → puts x ≡ cond (eqb (x / answer_words) i) (words_of fate vertex faces flips (x % answer_words)) (f x)
      go (yes e) =
          let k : x ≡ answer_words * i + x % answer_words = omega arith in
          ap puts k ∙ word_at (x % answer_words) (omega arith) ∙ sym (rw (eq-eqb (x / answer_words) i e) refl)
      go (no n) =
          put_other _ _ flips x (λ z. n (omega arith)) ∙ put_other _ _ faces x (λ z. n (omega arith))
          ∙ put_other _ _ vertex x (λ z. n (omega arith)) ∙ put_other f _ fate x (λ z. n (omega arith))
          ∙ sym (rw (ne_eqb (x / answer_words) i n) refl)

pub stored : (l : List ℕ) (i fate vertex faces flips : ℕ) → answer_words * i + answer_words ≤ length l
    → row_of (set (set (set (set l (answer_words * i) fate) (answer_words * i + 1) vertex) (answer_words * i + 2) faces)
    (answer_words * i + 3) flips)
    ≡ with_words (row_of l) i (words_of fate vertex faces flips)
stored l i fate vertex faces flips h =
    let l₁ = set l (answer_words * i) fate in
    let l₂ = set l₁ (answer_words * i + 1) vertex in
    let l₃ = set l₂ (answer_words * i + 2) faces in
    let n₁ : length l₁ ≡ length l = length-set l (answer_words * i) fate in
    let n₂ : length l₂ ≡ length l₁ = length-set l₁ (answer_words * i + 1) vertex in
    let n₃ : length l₃ ≡ length l₂ = length-set l₂ (answer_words * i + 2) faces in
    store-row l₃ (answer_words * i + 3) flips (omega arith)
    ∙ ap (λ (f : ℕ → ℕ). put f (answer_words * i + 3) flips) (store-row l₂ (answer_words * i + 2) faces (omega arith)
    ∙ ap (λ (f : ℕ → ℕ). put f (answer_words * i + 2) faces) (store-row l₁ (answer_words * i + 1) vertex (omega arith)
    ∙ ap (λ (f : ℕ → ℕ). put f (answer_words * i + 1) vertex) (store-row l (answer_words * i) fate (omega arith))))
    ∙ fun_ext (words-at (row_of l) i fate vertex faces flips)

-- ---- zeros, one after another
pub record Zeroing (row row' : List ℕ) (from to x : ℕ) : Type 0 where
  pub each : (y : ℕ) → row_of row' y ≡ cond (leb from y && ltb y x) 0 (row_of row y)
  pub low : from ≤ x
  pub high : x ≤ to
  pub room : to ≤ length row
  pub same : length row' ≡ length row

none : (from y : ℕ) → (leb from y && ltb y from) ≡ false
none from y = go (dec_lt y from)
  where
    go : Dec (y < from) → (leb from y && ltb y from) ≡ false
    go (yes b) = rw (lt-leb from y b) refl
    go (no b) = let z : from ≤ y = omega arith in rw (le-leb from y z, le-ltb y from z) refl

pub zeroing-starts : (row : List ℕ) {from to : ℕ} → from ≤ to → to ≤ length row → Zeroing row row from to from
zeroing-starts row {from} l m = record { each = λ y. rw (none from y) refl; low = omega arith; high = l; room = m; same = refl }

module _ {row row' : List ℕ} {from to x : ℕ} (Z : Zeroing row row' from to x) where
  pub zeroing-on : x < to → Zeroing row (set row' x 0) from to (x + 1)
  zeroing-on l = record {
    each = λ y. ap (λ (f : ℕ → ℕ). f y) (store-row row' x 0 (let a = Z.room in let b = Z.same in omega arith)) ∙ at y (ℕ_discrete y x);
    low = let a = Z.low in omega arith;
    high = omega arith;
    room = Z.room;
    same = length-set row' x 0 ∙ Z.same;
  }
    where
      later : (y : ℕ) → y ≢ x → ltb y (x + 1) ≡ ltb y x
      later y d = go (dec_lt y x)
        where
          go : Dec (y < x) → ltb y (x + 1) ≡ ltb y x
          go (yes b) = lt-ltb y (x + 1) (omega arith) ∙ sym (lt-ltb y x b)
          go (no b) = le-ltb y (x + 1) (omega arith) ∙ sym (le-ltb y x (omega arith))

      at : (y : ℕ) → Dec (y ≡ x) → put (row_of row') x 0 y ≡ cond (leb from y && ltb y (x + 1)) 0 (row_of row y)
      at y (yes e) = rw e (put_same (row_of row') x 0 ∙ sym (rw (le-leb from x Z.low, lt-ltb x (x + 1) (omega arith)) refl))
      at y (no d) = put_other (row_of row') x 0 y d ∙ Z.each y ∙ rw (later y d) refl

  pub zeroing-end : to ≤ x → Zeroed row row' from to
  zeroing-end l = let z : x ≡ to = (let h = Z.high in omega arith) in record { each = λ y. Z.each y ∙ rw z refl }
