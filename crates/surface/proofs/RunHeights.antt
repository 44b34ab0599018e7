-- The heights that a run leaves can be had from its answers alone (`run-stored`): what the steps and the skipped points store is what their
-- answers store, and where a point was refused a flip its height besides, at the last vertex. Assumes nothing.
use Rattle.std.specs.Prelude.{true, false, ◌||◌, List, ◌≡◌, ℤ, Ok}
use Rattle.std.proofs.Math.Path.{refl}
use Rattle.std.proofs.Common.{sym, ◌∙◌, ap, subst}
use Prim.Native.Nat.{ℕ, suc, ◌<◌}
use Rattle.mesh.specs.declared.Counts.{Counts}
use Rattle.mesh_check.specs.Checked.{Checked}
use Rattle.mesh_check.specs.Check.{point_count}
use Rattle.skipped.specs.Fill.{Completing}
use Rattle.sums.specs.Put.{put}
use Rattle.sweep.specs.Run.{Sweeping, RunLent, run_checked, sweep_of, run_completes, passed_of, run_of}
use Rattle.surface.specs.StoredHeights.{stored_from, answered_heights, finished_heights}
use Rattle.surface.specs.Surface.{sweep_heights, fill_heights, run_heights}
use Rattle.surface.proofs.RunAnswers.{step_vertex, insert_vertex, steps-whole, steps-stopped, points_none, points-whole, points-stopped}
use Rattle.surface.proofs.RunRefused.{at-step, at-passes, at-point, at-end}
use Rattle.surface.proofs.RunRefused.{PointRefused, step-refused, point-refused, Ended, ended, made-is, place_end, place_at, vertices-are}
use Rattle.surface.proofs.StoredLaws.{heights-end, heights-at}

module _ (l : RunLent) (e : run_checked l ≡ Ok tt) (z h : ℕ → ℤ) where
  abbrev N : ℕ
  N = point_count l.points

  abbrev s : Sweeping
  s = sweep_of l N

  abbrev c : Completing
  c = run_completes l

  abbrev answers : List ℕ
  answers = (run_of l).answers

  abbrev stored : ℕ → ℤ
  stored = finished_heights (run_of l).answer answers z h N

  abbrev added : ℕ → ℤ
  added = stored_from 1 1 answers z h N

  stored-end : c.place ≡ N → stored ≡ answered_heights answers z h N
  stored-end q = heights-end (run_of l).answer answers z h N (made-is l e) (place_end l e q)

  stored_at : c.mesh.full ≡ true → {a v : ℕ} → c.place ≡ a → c.mesh.counts.vertices ≡ suc v → a < N
      → stored ≡ put (answered_heights answers z h N) v (z a)
  stored_at f p v k = heights-at (run_of l).answer answers z h N (made-is l e) (place_at l e f ∙ p) (vertices-are l e ∙ v) k

  -- with and without skipped points
  none_in : c.inserted ≡ 0 → answered_heights answers z h N ≡ added
  unfolding answered_heights
  none_in q = points_none l e z added q

  all_in : {g : ℕ → ℤ} → g ≡ stored_from 6 9 answers z added N → g ≡ answered_heights answers z h N
  unfolding answered_heights
  all_in q = q

  steps-only : (s.full || (passed_of l).full) ≡ true → run_heights l z h ≡ sweep_heights l z h N
  unfolding run_heights
  steps-only q = rw q refl

  steps_then : s.full ≡ false → (passed_of l).full ≡ false → run_heights l z h ≡ fill_heights l z added N
  unfolding run_heights
  steps_then f p = rw (f, p) (ap (λ (g : ℕ → ℤ). fill_heights l z g N) (steps-whole l e z h f))

  pub run-stored : run_heights l z h ≡ stored
  run-stored = go (ended l e)
    where
      go : Ended l e → run_heights l z h ≡ stored
      go (at-step f p i v q) =
          let R = step-refused l e f in
          steps-only (rw f refl) ∙ steps-stopped l e z h R.at R.added
          ∙ sym (stored_at q p (ap (λ (C : Counts). C.vertices) v ∙ R.last) R.at.earlier
          ∙ ap (λ (g : ℕ → ℤ). put g (step_vertex l s.answered) (z s.answered)) (none_in i))
      go (at-passes f p q i) =
          steps-only (rw (f, p) refl) ∙ steps-whole l e z h f ∙ sym (none_in i) ∙ sym (stored-end q)
      go (at-point f p x q i v y) =
          let R = subst (PointRefused l e) (sym i) (point-refused l e x) in
          steps_then f p ∙ points-stopped l e z added R.at R.skipped
          ∙ ap (λ (g : ℕ → ℤ). put g (insert_vertex l c.inserted) (z c.inserted)) (all_in refl)
          ∙ sym (stored_at y (q ∙ sym i) (ap (λ (C : Counts). C.vertices) v ∙ R.last) R.at.earlier)
      go (at-end f p x q i) = steps_then f p ∙ points-whole l e z added x i ∙ all_in refl ∙ sym (stored-end q)
