-- The answers of a bulk load by the words of its points: those of the seed, and then the run's. Assumes nothing but `SeedRows`.
use Rattle.std.specs.Prelude.{Bool, true, false, List, ◌≡◌, length, drop, Ok}
use Rattle.std.proofs.Math.Path.{refl, ap}
use Rattle.std.proofs.Common.{sym, ◌∙◌}
use Prim.Native.Nat.{ℕ, ◌+◌, ◌-◌, ◌*◌, ◌/◌, ◌%◌, ◌<◌, ◌≤◌}
use native.Mathlib.Omega.{arith}
use borrow.Author.Tests.{lt-ltb, le-ltb}
use Rattle.std.proofs.Math.ListN.{length-drop}
use Rattle.dcel.specs.MeshRows.{MeshRows, links_in, places_in, mesh_rows_from}
use Rattle.dcel.specs.Rows.{position_of, row_of, row_from_of}
use Rattle.dcel.specs.Views.{length_from, lengths-from}
use Rattle.line.specs.Grow.{Growing}
use Rattle.math.specs.declared.Point.{Point}
use Rattle.mesh.specs.Mesh.{Links}
use Rattle.mesh_check.specs.Checked.{Checked}
use Rattle.sweep.specs.Run.{RunOutcome, answer_words, answer_in, run_answers, run_of}
use Rattle.sweep.proofs.RunAnswers.{answer_at}
use Rattle.sweep.proofs.RunLaws.{run_is}
use Rattle.bulk_load.specs.Seed.{grow_at, grow_word}
use Rattle.bulk_load.specs.BulkLoad.{BulkLoadLent, bulk_load_checked, count, seeded, seeded_word, seed_answers, rest_of, swept_answers}
use Rattle.bulk_load.proofs.RestFacts as rest
use Rattle.bulk_load.specs.Rest.{SeedRows}

-- rows of the same lengths
pub rows-again : (m : MeshRows) (L L' : Links) (p p' : ℕ → Point) → mesh_rows_from (mesh_rows_from m L p) L' p' ≡ mesh_rows_from m L' p'
unfolding mesh_rows_from
rows-again m L L' p p' =
    let s = lengths-from m L p in
    rw (s.positions, s.outs, s.halves, s.faces) refl

module _ (l : BulkLoadLent) (e : bulk_load_checked l ≡ Ok tt) where
  abbrev k : ℕ
  k = (seeded l).answered

  k-most : k ≤ count l
  k-most = (rest.keeps l e).most

  -- word w of point i
  word_of : (i w : ℕ) → w < answer_words → ((answer_words * i + w) / answer_words ≡ i) × ((answer_words * i + w) % answer_words ≡ w)
  word_of i w b = (omega arith, omega arith)

  within : (i w : ℕ) → i < count l → w < answer_words → answer_words * i + w < length l.answers
  within i w a b = let r = (rest.accepted l e).answers-room in omega arith

  pub seed-word : (i w : ℕ) → i < k → w < answer_words → answer_in (row_from_of (length l.answers) (seed_answers l)) i w ≡ seeded_word l i w
  unfolding seed_answers
  seed-word i w a b =
      let x = word_of i w b in
      let m = k-most in
      answer_at (seed_answers l) l.answers (answer_words * i + w) (within i w (omega arith) b)
      ∙ rw (lt-ltb (answer_words * i + w) (answer_words * count l) (omega arith), x.0, x.1, lt-ltb i k a) refl

  -- no answer yet
  pub zero_word : (i w : ℕ) → k ≤ i → i < count l → w < answer_words → answer_in (row_from_of (length l.answers) (seed_answers l)) i w ≡ 0
  unfolding seed_answers
  zero_word i w a c b =
      let x = word_of i w b in
      answer_at (seed_answers l) l.answers (answer_words * i + w) (within i w c b)
      ∙ rw (lt-ltb (answer_words * i + w) (answer_words * count l) (omega arith), x.0, le-ltb i k a) refl

  pub swept-word : (i w : ℕ) → i < k → w < answer_words → answer_in (row_from_of (length l.answers) (swept_answers l)) i w ≡ seeded_word l i w
  unfolding swept_answers
  swept-word i w a b =
      let x = word_of i w b in
      let m = k-most in
      answer_at (swept_answers l) l.answers (answer_words * i + w) (within i w (omega arith) b)
      ∙ rw (lt-ltb (answer_words * i + w) (answer_words * k) (omega arith), x.0, x.1) refl

  module _ (S : SeedRows l) (r : (seeded l).ready ≡ true) where
    rest-row : answer_in (run_of (rest_of l)).answers ≡ answer_in (row_from_of (length (rest_of l).answers) (run_answers (rest_of l)))
    rest-row = ap (λ (R : RunOutcome). answer_in R.answers) (run_is (rest_of l) (rest.rest-accepted l e S r))

    rest-long : answer_words * k + length (rest_of l).answers ≡ length l.answers
    unfolding rest_of
    rest-long =
        let d = length-drop (answer_words * k) l.answers in
        let a = (rest.accepted l e).answers-room in
        let m = k-most in
        omega arith

    pub rest-word : (j w : ℕ) → k + j < count l → w < answer_words
        → answer_in (row_from_of (length l.answers) (swept_answers l)) (k + j) w ≡ answer_in (run_of (rest_of l)).answers j w
    unfolding swept_answers
    rest-word j w a b =
        let h = within (k + j) w a b in
        let g = rest-long in
        let s : answer_words * (k + j) + w - answer_words * k ≡ answer_words * j + w = omega arith in
        answer_at (swept_answers l) l.answers (answer_words * (k + j) + w) h
        ∙ rw (le-ltb (answer_words * (k + j) + w) (answer_words * k) (omega arith), s)
        (sym (answer_at (run_answers (rest_of l)) (rest_of l).answers (answer_words * j + w) (omega arith)) ∙ ap (λ (f : ℕ → ℕ → ℕ). f j w) (sym rest-row))
