-- A row of answers by the words of its points, and what those words are after the finish of a run. Assumes nothing.
use Rattle.std.specs.Prelude.{Bool, cond, List, ◌≡◌, ℕ, ◌+◌, ◌*◌, ◌/◌, ◌%◌, ◌<◌, ◌≤◌, ltb}
use Rattle.std.proofs.Math.Path.{refl, sym}
use Rattle.std.proofs.Common.{◌∙◌, lt-ltb, le-ltb}
use Rattle.std.proofs.Math.Decide.{dec_lt}
use native.Mathlib.Omega.{arith}
use Rattle.std.proofs.Math.ListN.{length, get_or, get_or-eq_default}
use Rattle.dcel.specs.Rows.{row_of, row_from_of}
use Rattle.dcel.specs.Views.{length_from, get_or-from}
use Rattle.sweep.specs.Step.{Stepping, answer_of}
use Rattle.sweep.specs.Run.{answer_words, answer_word, answers_after, completed_answers}

-- a row of answers, by the words of its points
module _ (f : ℕ → ℕ) (row : List ℕ) where
  abbrev rows : List ℕ
  rows = row_from_of (length row) f

  pub answer_at : (x : ℕ) → x < length row → row_of rows x ≡ f x
  unfolding row_of
  answer_at x l = get_or-from (length row) f 0 x l

  pub answer-past : (x : ℕ) → f x ≡ row_of row x → row_of rows x ≡ row_of row x
  unfolding row_of
  answer-past x e = go (dec_lt x (length row))
    where
      go : Dec (x < length row) → get_or rows x 0 ≡ get_or row x 0
      go (yes b) = get_or-from (length row) f 0 x b ∙ e
      go (no b) =
          let w = length_from (length row) f in
          get_or-eq_default rows 0 (omega arith) ∙ sym (get_or-eq_default row 0 (omega arith))

-- the words of point i after the finish
module _ (answer : ℕ → ℕ → ℕ) (skipped : ℕ → Bool) (inserted : ℕ) (step : ℕ → Stepping) (answered count : ℕ) (row : ℕ → ℕ) where
  abbrev after : ℕ → ℕ
  after = completed_answers answer skipped inserted count (answers_after step answered count row)

  pub word-is : (i k : ℕ) → i < count → k < answer_words
      → after (answer_words * i + k)
      ≡ cond (skipped i) (cond (ltb i inserted) (answer i k) 0) (cond (ltb i answered) (answer_word (answer_of (step i)) k) 0)
  unfolding completed_answers answers_after
  word-is i k a b =
      let x : (answer_words * i + k) / answer_words ≡ i = omega arith in
      let y : (answer_words * i + k) % answer_words ≡ k = omega arith in
      rw (lt-ltb (answer_words * i + k) (answer_words * count) (omega arith), x, y) refl

  pub word-past : (x : ℕ) → answer_words * count ≤ x → after x ≡ row x
  unfolding completed_answers answers_after
  word-past x c = rw (le-ltb x (answer_words * count) c) refl
