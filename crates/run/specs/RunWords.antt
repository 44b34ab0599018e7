-- The answers of a run: the row after the steps says which points were skipped, and what the finish makes of it is the definition's. Assumes nothing.
use Rattle.std.specs.Prelude.{Bool, ◌≡◌, ℕ, ◌+◌, ◌*◌, ◌/◌, ◌%◌, ◌<◌, ◌≤◌, length, Ok}
use Rattle.std.proofs.Math.Bool.{true, false, cond}
use Rattle.std.proofs.Math.Path.{refl, sym, ap}
use Rattle.std.proofs.Math.Decide.{dec_lt}
use native.Mathlib.Omega.{arith}
use borrow.Author.Tests.{lt-ltb, le-ltb}
use Rattle.answers.specs.AnswerRows.{skipped_number, skipped_in}
use Rattle.complete.specs.CompleteRows.{fill_word}
use Rattle.complete.proofs.SameSkipped.{word_same, complete-same}
use Rattle.dcel.specs.Rows.{position_of, row_of}
use Rattle.decide.specs.declared.Fate.{Fate}
use Rattle.decide.specs.declared.Fate.TheVariants.{Added, Dropped, NotLeft, Unsound, AtCenter}
use Rattle.decide.specs.Decide.{fate_number}
use Rattle.mesh_check.specs.Checked.{Checked}
use Rattle.mesh_check.specs.Check.{point_count}
use Rattle.skipped.specs.Fill.{Completing}
use Rattle.sums.specs.Bit.{bit}
use Rattle.sums.specs.Bounded.{count}
use Rattle.sums.proofs.BoundedLaws.{count-apart, count-ext}
use Rattle.sweep.specs.Run.{Sweeping, is_skipped, complete_after, answer_words, answer_word, answers_after, completed_answers, RunLent, run_checked, sweep_of, steps_of, skipped_of, run_completes, passed_of, run_answers}
use Rattle.sweep.proofs.RunLaws.{run-keeps, refused-is}
use Rattle.sweep.specs.Step.{is_added}

-- fates 3, 4 and 5 are those of skipped points
skipped-number : (f : Fate) → skipped_number (fate_number f) ≡ is_skipped f
unfolding skipped_number fate_number is_skipped
skipped-number (Added v) = refl
skipped-number Dropped = refl
skipped-number NotLeft = refl
skipped-number Unsound = refl
skipped-number AtCenter = refl

apart : (f : Fate) → bit (is_added f) + bit (is_skipped f) ≤ 1
unfolding is_added is_skipped
apart (Added v) = omega arith
apart Dropped = omega arith
apart NotLeft = omega arith
apart Unsound = omega arith
apart AtCenter = omega arith

module _ (l : RunLent) (e : run_checked l ≡ Ok tt) where
  abbrev n : ℕ
  n = point_count l.points

  abbrev room : ℕ
  room = length l.pending

  abbrev s : Sweeping
  s = sweep_of l n

  -- the row after the steps
  abbrev stepped : ℕ → ℕ
  stepped = answers_after (steps_of l) s.answered n (row_of l.answers)

  -- of a point that was answered
  skipped_at : (i : ℕ) → i < n → i < s.answered → skipped_in stepped i ≡ skipped_of l i
  unfolding answers_after answer_word
  skipped_at i a b =
      let x : (answer_words * i) / answer_words ≡ i = omega arith in
      let y : (answer_words * i) % answer_words ≡ 0 = omega arith in
      rw (lt-ltb (answer_words * i) (answer_words * n) (omega arith), x, lt-ltb i s.answered b, y) (skipped-number (steps_of l i).fate)

  module _ (f : s.full ≡ false) where
    pub skipped-same : (i : ℕ) → i < n → skipped_in stepped i ≡ skipped_of l i
    skipped-same i a = skipped_at i a (let k = (run-keeps l e).answered f in omega arith)

    -- a vertex for each that was added, and one for each that was skipped, are at most one a point
    pub vertices-most : s.counts.vertices + count n (skipped_in stepped) ≤ l.counts.vertices + n
    vertices-most =
        let k = (run-keeps l e).number f in
        let c = count-ext n (skipped_in stepped) (skipped_of l) skipped-same in
        let a = count-apart n (λ i. is_added (steps_of l i).fate) (skipped_of l) (λ i b. apart (steps_of l i).fate) in
        omega arith

  -- THE FINISH, by the row
  refused-same : s.full ≡ true → complete_after room s (skipped_in stepped) (position_of l.points) n ≡ run_completes l
  unfolding complete_after
  refused-same f = rw f refl

  completed-same : s.full ≡ false → complete_after room s (skipped_in stepped) (position_of l.points) n ≡ run_completes l
  unfolding complete_after
  completed-same f =
      rw (
        f,
        complete-same room s.counts s.links s.positions (skipped_in stepped) (skipped_of l) (position_of l.points) n
            (skipped-same f),
      ) refl

  pub completes-same : complete_after room s (skipped_in stepped) (position_of l.points) n ≡ run_completes l
  completes-same = go s.full refl
    where
      go : (b : Bool) → s.full ≡ b → complete_after room s (skipped_in stepped) (position_of l.points) n ≡ run_completes l
      go true f = refused-same f
      go false f = completed-same f

  -- and THE ANSWERS
  abbrev words : ℕ → ℕ → ℕ
  words = fill_word room (passed_of l).counts (passed_of l).links s.positions (skipped_in stepped) (position_of l.points)

  past : (x : ℕ) → answer_words * n ≤ x → completed_answers words (skipped_in stepped) (run_completes l).inserted n stepped x ≡ run_answers l x
  unfolding completed_answers
  past x a = rw (le-ltb x (answer_words * n) a) refl

  within : (x : ℕ) → x < answer_words * n → s.full ≡ false
      → completed_answers words (skipped_in stepped) (run_completes l).inserted n stepped x ≡ run_answers l x
  unfolding completed_answers
  within x a f =
      let i : x / answer_words < n = omega arith in
      rw (
        lt-ltb x (answer_words * n) a,
        skipped-same f (x / answer_words) i,
        word_same room (passed_of l).counts (passed_of l).links s.positions (skipped_in stepped) (skipped_of l) (position_of l.points) n
            (skipped-same f) (x / answer_words) (x % answer_words) i,
      ) refl

  none-answered : (x : ℕ) → x < answer_words * n → s.answered ≤ x / answer_words → stepped x ≡ 0
  unfolding answers_after
  none-answered x a b = rw (lt-ltb x (answer_words * n) a, le-ltb (x / answer_words) s.answered b) refl

  stopped : (x : ℕ) → x < answer_words * n → s.full ≡ true
      → completed_answers words (skipped_in stepped) (run_completes l).inserted n stepped x ≡ run_answers l x
  unfolding completed_answers
  stopped x a f =
      let k : (run_completes l).inserted ≡ 0 = ap (λ (c : Completing). c.inserted) (refused-is l e f) in
      rw (lt-ltb x (answer_words * n) a, k, le-ltb (x / answer_words) 0 (omega arith)) (go (dec_lt (x / answer_words) s.answered))
    where
      nought : (b c : Bool) → stepped x ≡ 0 → cond b 0 (stepped x) ≡ cond c 0 (stepped x)
      nought true true z = refl
      nought true false z = sym z
      nought false true z = z
      nought false false z = refl

      go : Dec (x / answer_words < s.answered)
          → cond (skipped_in stepped (x / answer_words)) 0 (stepped x) ≡ cond (skipped_of l (x / answer_words)) 0 (stepped x)
      go (yes b) = rw (skipped_at (x / answer_words) (omega arith) b) refl
      go (no b) = nought (skipped_in stepped (x / answer_words)) (skipped_of l (x / answer_words)) (none-answered x a (omega arith))

  pub answers-same : (x : ℕ) → completed_answers words (skipped_in stepped) (run_completes l).inserted n stepped x ≡ run_answers l x
  answers-same x = go (dec_lt x (answer_words * n)) s.full refl
    where
      go : Dec (x < answer_words * n) → (b : Bool) → s.full ≡ b
          → completed_answers words (skipped_in stepped) (run_completes l).inserted n stepped x ≡ run_answers l x
      go (yes a) true f = stopped x a f
      go (yes a) false f = within x a f
      go (no a) b f = past x (omega arith)
