-- The answers of a run and the two stages that they come from, the steps and the skipped points: which points have fate 1, and which
-- 6 to 9, with their vertices; and each stage's heights beside those that its answers store (`Stages`). Assumes nothing.
use Rattle.std.specs.Prelude.{Bool, true, false, not, ◌&&◌, List, ◌≡◌, T, ltb, ℤ, length, Ok}
use Rattle.std.proofs.Math.Path.{refl, ap}
use Rattle.std.proofs.Common.{◌∙◌, subst, arith}
use Prim.Native.Nat.{ℕ, zero, suc, ◌<◌}
use Rattle.dcel.specs.Rows.{position_of}
use Rattle.decide.specs.Decide.{fate_number, fate_vertex}
use Rattle.mesh_check.specs.Checked.{Checked}
use Rattle.mesh_check.specs.Check.{point_count}
use Rattle.skipped.specs.Insert.{position_fate, position_vertex}
use Rattle.skipped.specs.Fill.{Filling, fill_after, insert_word, Completing}
use Rattle.sums.specs.Put.{put}
use Rattle.sweep.specs.Step.{is_added}
use Rattle.sweep.specs.Run.{answer_in, answer_word, Sweeping, sweep_after, RunLent, RunOutcome, run_checked, sweep_of, steps_of, skipped_of, run_completes, fill_of, insert_of, run_of}
use Rattle.sweep.proofs.RunLaws.{run_is, word, run-keeps}
use Rattle.sweep.proofs.SweepLawsFacts.{sweep-stays}
use Rattle.surface.specs.PutEach.{put_each}
use Rattle.surface.proofs.Stages.{StopsAt, stage-whole, stage-none, stage-stopped}
use Rattle.surface.specs.StoredHeights.{fate_word, vertex_word, is_from, stored_from}
use Rattle.surface.specs.Surface.{sweep_heights, fill_heights}
use Rattle.surface.proofs.FinishCases.{fill-stays}
use Rattle.surface.proofs.PointHeights.{word_of, word-added, word-inserted, vertex-added, vertex-inserted, step-each, fill-each}

module _ (l : RunLent) where
  -- a point that its step adds, and its vertex
  abbrev pub adds : ℕ → Bool
  adds i = is_added (steps_of l i).fate

  abbrev pub step_vertex : ℕ → ℕ
  step_vertex i = fate_vertex (steps_of l i).fate

  -- the vertex at which a skipped point is put in
  abbrev pub insert_vertex : ℕ → ℕ
  insert_vertex i = position_vertex (fill_of l i).counts (insert_of l i).place

  -- ---- after a refused flip no point follows
  pub sweep-on : (n : ℕ) → (sweep_of l n).full ≡ true → sweep_of l (suc n) ≡ sweep_of l n
  unfolding sweep_after
  sweep-on n f = sweep-stays (length l.pending) l.center.x l.center.y (sweep_of l n) (position_of l.points n) f

  pub fill_on : (n : ℕ) → (fill_of l n).full ≡ true → fill_of l (suc n) ≡ fill_of l n
  unfolding fill_after
  fill_on n f = fill-stays (length l.pending) (fill_of l n) (skipped_of l n) (position_of l.points n) f

  -- the step, or the insertion, of point a was refused one
  abbrev pub StepStops : ℕ → Type 0
  StepStops a = StopsAt (λ (x : Sweeping). x.full) (sweep_of l) sweep-on (point_count l.points) a

  abbrev pub PointStops : ℕ → Type 0
  PointStops a = StopsAt (λ (x : Filling). x.full) (fill_of l) fill_on (point_count l.points) a

  -- ---- the heights, store by store
  swept-each : (z h : ℕ → ℤ) (n : ℕ) → sweep_heights l z h n ≡ put_each (λ i. not (sweep_of l i).full && adds i) step_vertex z h n
  unfolding sweep_heights put_each
  swept-each z h zero = refl
  swept-each z h (suc n) = step-each (sweep_of l n).full (steps_of l n).fate (z n) (swept-each z h n)

  filled-each : (z h : ℕ → ℤ) (n : ℕ) → fill_heights l z h n ≡ put_each (λ i. not (fill_of l i).full && skipped_of l i) insert_vertex z h n
  unfolding fill_heights put_each
  filled-each z h zero = refl
  filled-each z h (suc n) =
      fill-each (fill_of l n).full (skipped_of l n) (fill_of l n).counts (insert_of l n).place (z n) (filled-each z h n)

module _ (l : RunLent) (e : run_checked l ≡ Ok tt) where
  abbrev N : ℕ
  N = point_count l.points

  abbrev s : Sweeping
  s = sweep_of l N

  abbrev c : Completing
  c = run_completes l

  abbrev answers : List ℕ
  answers = (run_of l).answers

  -- ---- the answers
  fate-word : (i : ℕ) → i < N
      → fate_word answers i
      ≡ word_of (steps_of l i).fate (ltb i s.answered) (ltb i c.inserted) (position_fate (insert_of l i).place) (fate_number (steps_of l i).fate)
  unfolding answer_word insert_word
  fate-word i a = ap (λ (r : RunOutcome). answer_in r.answers i 0) (run_is l e) ∙ word l e i 0 a (omega arith)

  vertex-word : (i : ℕ) → i < N
      → vertex_word answers i ≡ word_of (steps_of l i).fate (ltb i s.answered) (ltb i c.inserted) (insert_vertex l i) (step_vertex l i)
  unfolding answer_word insert_word
  vertex-word i a = ap (λ (r : RunOutcome). answer_in r.answers i 1) (run_is l e) ∙ word l e i 1 a (omega arith)

  -- fate 1: its step added it, and was not refused a flip
  pub added-test : (i : ℕ) → i < N → is_from 1 1 (fate_word answers i) ≡ (adds l i && ltb i s.answered)
  added-test i a =
      ap (is_from 1 1) (fate-word i a) ∙ word-added (steps_of l i).fate (insert_of l i).place (ltb i s.answered) (ltb i c.inserted)

  pub added-vertex : (i : ℕ) → i < N → T (is_from 1 1 (fate_word answers i)) → vertex_word answers i ≡ step_vertex l i
  added-vertex i a t =
      vertex-word i a ∙ vertex-added (steps_of l i).fate (ltb i s.answered) (ltb i c.inserted) _ _ (subst T (added-test i a) t)

  -- fates 6 to 9: it was skipped, and is in
  pub inserted-test : (i : ℕ) → i < N → is_from 6 9 (fate_word answers i) ≡ (skipped_of l i && ltb i c.inserted)
  inserted-test i a =
      ap (is_from 6 9) (fate-word i a) ∙ word-inserted (steps_of l i).fate (insert_of l i).place (ltb i s.answered) (ltb i c.inserted)

  pub inserted-vertex : (i : ℕ) → i < N → T (is_from 6 9 (fate_word answers i)) → vertex_word answers i ≡ insert_vertex l i
  inserted-vertex i a t =
      vertex-word i a ∙ vertex-inserted (steps_of l i).fate (ltb i s.answered) (ltb i c.inserted) _ _ (subst T (inserted-test i a) t)

  -- ---- each stage beside what its answers store
  module _ (z h : ℕ → ℤ) where
    pub steps-whole : s.full ≡ false → sweep_heights l z h N ≡ stored_from 1 1 answers z h N
    steps-whole f =
        swept-each l z h N
        ∙ stage-whole (λ (x : Sweeping). x.full) (sweep_of l) (sweep-on l) z h (adds l) (λ i. is_from 1 1 (fate_word answers i)) (step_vertex l)
        (vertex_word answers) N s.answered added-test added-vertex f ((run-keeps l e).answered f)

    pub steps-stopped : StepStops l s.answered → adds l s.answered ≡ true
        → sweep_heights l z h N ≡ put (stored_from 1 1 answers z h N) (step_vertex l s.answered) (z s.answered)
    steps-stopped Z t =
        swept-each l z h N
        ∙ stage-stopped (λ (x : Sweeping). x.full) (sweep_of l) (sweep-on l) z h (adds l) (λ i. is_from 1 1 (fate_word answers i)) (step_vertex l)
        (vertex_word answers) N s.answered added-test added-vertex Z t

    pub points_none : c.inserted ≡ 0 → stored_from 6 9 answers z h N ≡ h
    points_none q =
        stage-none (λ (x : Filling). x.full) (fill_of l) (fill_on l) z h (skipped_of l) (λ i. is_from 6 9 (fate_word answers i)) (insert_vertex l)
        (vertex_word answers) N c.inserted inserted-test inserted-vertex q

    pub points-whole : (fill_of l N).full ≡ false → c.inserted ≡ N → fill_heights l z h N ≡ stored_from 6 9 answers z h N
    points-whole f q =
        filled-each l z h N
        ∙ stage-whole (λ (x : Filling). x.full) (fill_of l) (fill_on l) z h (skipped_of l) (λ i. is_from 6 9 (fate_word answers i)) (insert_vertex l)
        (vertex_word answers) N c.inserted inserted-test inserted-vertex f q

    pub points-stopped : PointStops l c.inserted → skipped_of l c.inserted ≡ true
        → fill_heights l z h N ≡ put (stored_from 6 9 answers z h N) (insert_vertex l c.inserted) (z c.inserted)
    points-stopped Z t =
        filled-each l z h N
        ∙ stage-stopped (λ (x : Filling). x.full) (fill_of l) (fill_on l) z h (skipped_of l) (λ i. is_from 6 9 (fate_word answers i)) (insert_vertex l)
        (vertex_word answers) N c.inserted inserted-test inserted-vertex Z t
