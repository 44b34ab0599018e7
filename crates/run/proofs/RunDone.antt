-- A run from its checks to its answer: what the checks give each call, and the calls' contracts one after another as the definition of a run has them. Assumes nothing.
use Rattle.std.specs.Prelude.{Ok, Err}
use mathlib.Core.Bool.{cond, ◌&&◌}
use mathlib.Core.List.{List}
use mathlib.Core.Path.{◌≡◌, refl, sym, ◌∙◌, ap, ap₂, subst, fun_ext}
use Prim.Native.Nat.{ℕ, ◌+◌, ◌*◌, ◌/◌, ◌%◌, ◌<◌, ◌≤◌}
use native.Mathlib.Decide.{dec_lt}
use native.Mathlib.Omega.{arith}
use borrow.Author.Tests.{lt-ltb, le-ltb, le-leb, lt-leb, ltb-false}
use lib.Dec.{ltb, leb}
use lib.IntN.{ℤ}
use lib.ListN.{length, replicate}
use Rattle.dcel.specs.MeshRows.{MeshRows, mesh_rows, SameLengths}
use Rattle.dcel.specs.Rows.{links_of, position_of, row_of, row_from_of}
use Rattle.dcel.specs.Views.{from_entries, mesh-rows-from}
use Rattle.finish.specs.declared.FinishAnswer.{FinishAnswer}
use Rattle.finish.specs.Finished.{Finished}
use Rattle.finish.specs.Finish.{Finishing, finished_from}
use Rattle.finish.specs.FinishRows.{finishing_of}
use Rattle.mesh.specs.declared.Counts.{Counts}
use Rattle.mesh.proofs.CountsLaws.{count-edges, count-faces}
use Rattle.mesh.specs.Good.{Good}
use Rattle.mesh_check.specs.Checked.{Checked}
use Rattle.mesh_check.specs.declared.Refusal.{Refusal}
use Rattle.mesh_check.specs.Check.{point_count, vertex_count}
use Rattle.ring_rows.proofs.Laws.{zeros-same}
use Rattle.ring_rows.specs.RingRows.{RingRows}
use Rattle.start.specs.StartRows.{RowsCleared}
use Rattle.sweep.specs.Step.{Stepping, answer_of}
use Rattle.steps.specs.declared.SweepEnd.{SweepEnd}
use Rattle.sweep.specs.Run.{Sweeping, complete_after, completed_answers, answer_words, answer_word, answers_after, RunLent, ran_with, run_checked, sweep_of, steps_of, run_completes, run_answers, run_outcome, run_of}
use Rattle.sweep.proofs.RunLaws.{run-accepts, run-start, run-keeps}
use Rattle.steps.specs.StepsRows.{answers_below, sweeping_of, SweepLeaves}
use Rattle.run.specs.RunWords.{vertices-most, completes-same, answers-same}
use Rattle.answers.specs.AnswerRows.{skipped_in, Zeroed}
use Rattle.complete.specs.declared.Completed.{Completed}
use Rattle.complete.specs.CompleteRows.{fill_word, swept_to, CompleteReady, CompleteLeaves}
use Rattle.convexity.specs.Convexity.{convexity}
use Rattle.skipped.specs.Fill.{Completing}
use Rattle.sums.specs.Bounded as Bounded

-- ---- an outcome by its parts
outcome-is : {r r' : FinishAnswer} {m m' : MeshRows} {g g' : RingRows} {p p' w w' : List ℕ} → r ≡ r' → m ≡ m' → g ≡ g' → p ≡ p' → w ≡ w'
    → ran_with r m g p w ≡ ran_with r' m' g' p' w'
outcome-is a b c d e = rw (a, b, c, d, e) refl

-- ---- rows by their entries
row_from : (row : List ℕ) (f : ℕ → ℕ) → ((x : ℕ) → row_of row x ≡ f x) → row ≡ row_from_of (length row) f
unfolding row_of
row_from row f e = from_entries row f 0 e

-- ---- the row after the steps: the answers of those that were answered, and zeros for the others
answers-from : (old mid new : List ℕ) (step : ℕ → Stepping) (answered count : ℕ) → answered ≤ count
    → ((x : ℕ) → row_of mid x ≡ answers_below step answered (row_of old) x) → Zeroed mid new (answer_words * answered) (answer_words * count)
    → (x : ℕ) → row_of new x ≡ answers_after step answered count (row_of old) x
unfolding answers_after
answers-from old mid new step answered count most e Z x = Z.each x ∙ at (dec_lt x (answer_words * answered)) (dec_lt x (answer_words * count))
  where
    at : Dec (x < answer_words * answered) → Dec (x < answer_words * count)
        → cond (leb (answer_words * answered) x && ltb x (answer_words * count)) 0 (row_of mid x) ≡ cond (ltb x (answer_words * count)) (cond (ltb (x / answer_words) answered) (answer_word (answer_of (step (x / answer_words))) (x % answer_words)) 0) (row_of old x)
    at (yes a) b = rw (lt-leb (answer_words * answered) x a, lt-ltb x (answer_words * count) (omega arith), lt-ltb (x / answer_words) answered (omega arith)) (e x ∙ rw (lt-ltb x (answer_words * answered) a) refl)
    at (no a) (yes b) = rw (le-leb (answer_words * answered) x (omega arith), lt-ltb x (answer_words * count) b, le-ltb (x / answer_words) answered (omega arith)) refl
    at (no a) (no b) = rw (le-leb (answer_words * answered) x (omega arith), le-ltb x (answer_words * count) (omega arith)) (e x ∙ rw (le-ltb x (answer_words * answered) (omega arith)) refl)

-- ---- from the steps to the answer
module _ (l : RunLent) (e : run_checked l ≡ Ok tt) where
  abbrev C : Counts
  C = l.counts

  abbrev n : ℕ
  n = point_count l.points

  -- ---- after the steps
  module _ (count : ℕ) (c : count ≡ n) (q₁ : List ℤ) (o₁ h₁ a₁ answers₁ : List ℕ) (end : SweepEnd)
      (S : SweepLeaves C l.mesh.positions l.mesh.outs l.mesh.halves l.mesh.faces l.pending l.answers
      l.center.x l.center.y l.points count q₁ o₁ h₁ a₁ answers₁ end) where
    swept-is : sweeping_of (mesh_rows q₁ o₁ h₁ a₁) end ≡ sweep_of l n
    swept-is = S.is ∙ ap (sweep_of l) c

    pub answered-most : end.answered ≤ count
    unfolding sweeping_of
    answered-most = let k = (run-keeps l e).answered-most in let w = ap (λ (s : Sweeping). s.answered) swept-is in omega arith

    pub to-zero : length answers₁ ≡ length l.answers → (end.answered ≤ count) × (answer_words * count ≤ length answers₁)
    to-zero k = (answered-most, let r = ltb-false (length l.answers) (answer_words * n) (run-accepts l e).others in omega arith)

    answered-is : end.answered ≡ (sweep_of l n).answered
    unfolding sweeping_of
    answered-is = ap (λ (s : Sweeping). s.answered) swept-is

    -- ---- after the zeros
    module _ (answers₂ : List ℕ) (Z : Zeroed answers₁ answers₂ (answer_words * end.answered) (answer_words * count)) where
      row_is : row_of answers₂ ≡ answers_after (steps_of l) (sweep_of l n).answered n (row_of l.answers)
      row_is = fun_ext (λ x.
          answers-from l.answers answers₁ answers₂ (steps_of l) end.answered count answered-most S.answers-are Z x
          ∙ ap₂ (λ (y z : ℕ). answers_after (steps_of l) y z (row_of l.answers) x) answered-is c)

      pub to-complete : (row₁ : List ℕ) → length q₁ ≡ length l.mesh.positions → length o₁ ≡ length l.mesh.outs
          → length h₁ ≡ length l.mesh.halves → length a₁ ≡ length l.mesh.faces
          → length row₁ ≡ length l.pending → length answers₂ ≡ length l.answers
          → CompleteReady end.counts end.full q₁ o₁ h₁ a₁ row₁ answers₂ l.points count
      unfolding vertex_count sweeping_of
      to-complete row₁ kq ko kh ka kr kw =
          let G : Good end.counts (links_of o₁ h₁ a₁) (position_of q₁) = subst (λ (s : Sweeping). Good s.counts s.links s.positions) (sym swept-is) (run-keeps l e).good in
          let v = ap (λ (s : Sweeping). s.counts.vertices) swept-is in
          let k = (run-keeps l e).most in
          let M = (run-start l e).mesh in
          let m = M.most in
          let p = M.rows.positions in let o = M.rows.outs in let h = M.rows.halves in let f = M.rows.faces in
          let pr = (run-accepts l e).pending-rows in
          let r = ltb-false (length l.answers) (answer_words * n) (run-accepts l e).others in
          let u = count-edges G.wf in
          let w = count-faces G.wf in
          record {
            fill = λ z. record {
              rows = record { room = record { outs = omega arith; halves = omega arith; faces = omega arith; small = omega arith }; positions = omega arith; good = G };
              vertices = C.vertices + n;
              most =
                  (let y = vertices-most l e (ap (λ (s : Sweeping). s.full) (sym swept-is) ∙ z) in
                  let x : Bounded.count count (skipped_in (row_of answers₂)) ≡ Bounded.count n (skipped_in (answers_after (steps_of l) (sweep_of l n).answered n (row_of l.answers)))
                  = rw (row_is, c) refl in omega arith);
              positions = omega arith;
              outs = omega arith;
              sized = record { halves = omega arith; faces = omega arith; pending = omega arith; small = omega arith };
              range = λ i d. M.range (omega arith);
              pairs = let d = M.pairs in omega arith;
              answers-room = omega arith;
              small = omega arith;
            };
            answers-room = omega arith;
          }

      -- ---- after the finish
      module _ (room : ℕ) (q₂ : List ℤ) (o₂ h₂ a₂ answers₃ : List ℕ) (done : Completed) (p : room ≡ length l.pending)
          (F : CompleteLeaves end.counts end.answered end.full q₁ o₁ h₁ a₁ room answers₂ l.points count
          q₂ o₂ h₂ a₂ answers₃ done) where
        -- the definition's finish, from the rows
        completes-is : complete_after room (swept_to end.counts end.answered end.full q₁ o₁ h₁ a₁) (skipped_in (row_of answers₂))
            (position_of l.points) count ≡ run_completes l
        unfolding sweeping_of
        completes-is =
            let s = swept_to end.counts end.answered end.full q₁ o₁ h₁ a₁ in
            ap (λ (r : ℕ). complete_after r s (skipped_in (row_of answers₂)) (position_of l.points) count) p
            ∙ ap (λ (t : Sweeping). complete_after (length l.pending) t (skipped_in (row_of answers₂)) (position_of l.points) count) swept-is
            ∙ ap₂ (λ (u : ℕ → ℕ) (m : ℕ). complete_after (length l.pending) (sweep_of l n) (skipped_in u) (position_of l.points) m) row_is c
            ∙ completes-same l e

        mesh-is : finishing_of o₂ h₂ a₂ done.ended ≡ (run_completes l).mesh
        mesh-is = F.mesh ∙ ap (λ (k : Completing). k.mesh) completes-is

        links-are : links_of o₂ h₂ a₂ ≡ (run_completes l).mesh.links
        unfolding finishing_of
        links-are = ap (λ (m : Finishing). m.links) mesh-is

        counts-are : done.ended.counts ≡ (run_completes l).mesh.counts
        unfolding finishing_of
        counts-are = ap (λ (m : Finishing). m.counts) mesh-is

        places-are : position_of q₂ ≡ (run_completes l).positions
        places-are = F.positions ∙ ap (λ (k : Completing). k.positions) completes-is

        place_is : done.place ≡ (run_completes l).place
        place_is = F.place ∙ ap (λ (k : Completing). k.place) completes-is

        -- the row, from what the finish starts with
        abbrev row_by : ℕ → Sweeping → (ℕ → ℕ) → ℕ → Completing → ℕ → ℕ
        row_by room s row count k x =
            let v = convexity room s.counts s.positions s.links in
            completed_answers (fill_word room v.counts v.links s.positions (skipped_in row) (position_of l.points))
            (skipped_in row) k.inserted count row x

        words_are : (x : ℕ) → row_of answers₃ x ≡ run_answers l x
        unfolding sweeping_of
        words_are x =
            let s = swept_to end.counts end.answered end.full q₁ o₁ h₁ a₁ in
            let w = row_of answers₂ in
            let k = complete_after room s (skipped_in w) (position_of l.points) count in
            F.answers-are x
            ∙ ap (λ (r : ℕ). row_by r s w count k x) p
            ∙ ap (λ (t : Sweeping). row_by (length l.pending) t w count k x) swept-is
            ∙ ap (λ (u : ℕ → ℕ). row_by (length l.pending) (sweep_of l n) u count k x) row_is
            ∙ ap (λ (m : ℕ). row_by (length l.pending) (sweep_of l n)
            (answers_after (steps_of l) (sweep_of l n).answered n (row_of l.answers)) m k x) c
            ∙ ap (λ (y : Completing). row_by (length l.pending) (sweep_of l n)
            (answers_after (steps_of l) (sweep_of l n).answered n (row_of l.answers)) n y x) completes-is
            ∙ answers-same l e x

        pub run-done : (r : FinishAnswer) (ring₁ ring₃ : RingRows) (pending₂ pending₃ : List ℕ)
            → SameLengths l.mesh (mesh_rows q₂ o₂ h₂ a₂)
            → length ring₁.nodes ≡ length l.ring.nodes → length ring₁.freed ≡ length l.ring.freed
            → length ring₁.buckets ≡ length l.ring.buckets
            → length pending₂ ≡ length l.pending → length answers₃ ≡ length l.answers
            → RowsCleared ring₁ pending₂ ring₃ pending₃
            → r ≡ record { counts = done.ended.counts; finished = finished_from done.place (finishing_of o₂ h₂ a₂ done.ended) }
            → ran_with r (mesh_rows q₂ o₂ h₂ a₂) ring₃ pending₃ answers₃ ≡ run_of l
        unfolding run_of run_outcome
        run-done r ring₁ ring₃ pending₂ pending₃ same kn kf kb kp kw K A =
            rw e
            (outcome-is answer (mesh-rows-from same links-are places-are) (K.ring-zero ∙ zeros-same l.ring ring₁ kn kf kb)
            (K.pending-zero ∙ ap (λ (n : ℕ). replicate n 0) kp) answers)
          where
            answer : r ≡ record { counts = (run_completes l).mesh.counts; finished = finished_from (run_completes l).place (run_completes l).mesh }
            answer = A ∙ ap₂ (λ (K : Counts) (f : Finished). record { counts = K; finished = f }) counts-are (ap₂ finished_from place_is mesh-is)

            answers : answers₃ ≡ row_from_of (length l.answers) (run_answers l)
            answers = row_from answers₃ (run_answers l) words_are ∙ ap (λ (k : ℕ). row_from_of k (run_answers l)) kw

-- ---- the call
-- refused
pub refused-run : (l : RunLent) (x : Refusal) → Err x ≡ run_checked l
    → ran_with (record { counts = l.counts; finished = Err x }) l.mesh l.ring l.pending l.answers ≡ run_of l
unfolding run_of run_outcome
refused-run l x e = rw (← e) refl
