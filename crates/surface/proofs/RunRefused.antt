-- Where a run was refused a flip, if it was, and what it then comes to: in a step or at a skipped point, which has the last vertex, in the
-- convexity passes before or after the skipped points, or nowhere. Assumes nothing.
use Rattle.std.specs.Prelude.{Bool, true, false, cond, ◌≡◌, ℕ, suc, ◌+◌, ◌≤◌, T, length, Ok}
use Rattle.std.proofs.Math.Path.{refl, subst}
use Rattle.std.proofs.Common.{sym, ◌∙◌, ap, arith}
use Rattle.convexity.proofs.ConvexityLawsFacts.{convexity-good}
use Rattle.dcel.specs.MeshRows.{links_in, places_in}
use Rattle.dcel.specs.Rows.{position_of}
use Rattle.finish.specs.declared.FinishAnswer.{FinishAnswer}
use Rattle.finish.specs.Finish.{finished_from}
use Rattle.math.specs.declared.Point.{Point}
use Rattle.mesh.specs.Good.{Good}
use Rattle.mesh_check.specs.Checked.{Checked}
use Rattle.mesh_check.specs.Check.{point_count}
use Rattle.skipped.specs.Insert.{is_new}
use Rattle.skipped.specs.Fill.{Filling, fill_after, Completing, enters}
use Rattle.skipped.proofs.FillLawsFacts.{Answers, fill-answered, fill-vertices, fill-number}
use Rattle.sums.specs.Bit.{bit}
use Rattle.sums.proofs.BitLaws.{from-true, is_true}
use Rattle.sums.specs.Bounded.{count}
use Rattle.sums.proofs.BoundedLaws.{count-suc}
use Rattle.sweep.specs.Step.{Stepping, is_added}
use Rattle.sweep.specs.Run.{Sweeping, sweep_after, RunLent, RunOutcome, run_checked, sweep_of, steps_of, skipped_of, run_completes, passed_of, fill_of, insert_of, run_of}
use Rattle.sweep.proofs.RunFates.{added-vertex}
use Rattle.sweep.proofs.RunLaws.{run_is, run-swept, run-start, swept-good, points-range, refused-is, completed-is}
use Rattle.sweep.proofs.Fates.{is-added}
use Rattle.sweep.proofs.StepCallLawsFacts.{step-fate, full-added}
use Rattle.sweep.specs.SweepLaws.{SweepKeeps}
use Rattle.sweep.proofs.SweepLawsFacts.{sweep-keeps, sweep-point, step_count}
use Rattle.surface.proofs.Stages.{stays-to, stops_at}
use Rattle.surface.specs.StoredHeights.{is_made, place_of}
use Rattle.surface.proofs.FinishCases.{full-new, fill-full, complete-passed, complete-at, complete-all}
use Rattle.surface.proofs.RunAnswers.{adds, step_vertex, insert_vertex, sweep-on, fill_on, StepStops, PointStops}
use Rattle.surface.proofs.StoredLaws.{finished-made, finished-place, either}

module _ (l : RunLent) (e : run_checked l ≡ Ok tt) where
  abbrev N : ℕ
  N = point_count l.points

  abbrev room : ℕ
  room = length l.pending

  abbrev point : ℕ → Point
  point = position_of l.points

  abbrev s : Sweeping
  s = sweep_of l N

  abbrev c : Completing
  c = run_completes l

  -- ---- in the step of point a
  pub keeps : (n : ℕ) → n ≤ N
      → SweepKeeps room l.center.x l.center.y l.counts (links_in l.mesh) (places_in l.mesh) point n (sweep_of l n)
  keeps n k = sweep-keeps room (run-swept l e) point n (λ i u. (run-start l e).mesh.range (omega arith))

  -- an added vertex has the next number
  pub step-next : (i : ℕ) → adds l i ≡ true → step_vertex l i ≡ (sweep_of l i).counts.vertices
  step-next i t =
      let x = sweep_of l i in
      let f = step-fate room l.center.x l.center.y x.counts x.links x.positions (point i) in
      (is-added l.center.x l.center.y x.counts x.links x.positions (point i) (sym f ∙ added-vertex (steps_of l i).fate (from-true t))).next

  pub record StepRefused (a : ℕ) : Type 0 where
    pub at : StepStops l a
    pub added : adds l a ≡ true
    pub last : s.counts.vertices ≡ suc (step_vertex l a)

  module _ {a : ℕ} (Z : StepStops l a) where
    abbrev t : Stepping
    t = steps_of l a

    made-step : sweep_of l (suc a)
        ≡ record {
          counts = t.mesh.counts;
          links = t.mesh.links;
          positions = t.positions;
          answered = cond t.mesh.full (sweep_of l a).answered (suc (sweep_of l a).answered);
          full = t.mesh.full;
        }
    unfolding sweep_after
    made-step = sweep-point room l.center.x l.center.y (sweep_of l a) (point a) Z.made

    last_step : s ≡ sweep_of l (suc a)
    last_step = stays-to (λ (x : Sweeping). x.full) (sweep_of l) (sweep-on l) (suc a) N Z.earlier Z.stopped

    full-step : t.mesh.full ≡ true
    full-step = sym (ap (λ (x : Sweeping). x.full) made-step) ∙ Z.stopped

    step-answered : s.answered ≡ a
    step-answered =
        ap (λ (x : Sweeping). x.answered) (last_step ∙ made-step)
        ∙ ap (λ (b : Bool). cond b (sweep_of l a).answered (suc (sweep_of l a).answered)) full-step
        ∙ (keeps a (let k = Z.earlier in omega arith)).answered Z.made

    step_added : adds l a ≡ true
    step_added =
        let x = sweep_of l a in
        ap is_added (step-fate room l.center.x l.center.y x.counts x.links x.positions (point a))
        ∙ full-added room l.center.x l.center.y x.counts x.links x.positions (point a) full-step

    step-last : s.counts.vertices ≡ suc (step_vertex l a)
    step-last =
        let k = Z.earlier in
        let K = keeps a (omega arith) in
        let c = step_count (K.swept Z.made) ((run-start l e).mesh.range {i = a} (omega arith)) room in
        let b = ap bit step_added in
        let v = step-next a step_added in
        let w = ap (λ (x : Sweeping). x.counts.vertices) (last_step ∙ made-step) in
        omega arith

  pub step-refused : s.full ≡ true → StepRefused s.answered
  unfolding sweep_after
  step-refused f =
      let r = stops_at (λ (x : Sweeping). x.full) (sweep_of l) (sweep-on l) refl N f in
      let Z = r.1 in
      subst StepRefused (sym (step-answered Z)) (record { at = Z; added = step_added Z; last = step-last Z })

  -- ---- in the insertion of point a
  pub passed-good : Good (passed_of l).counts (passed_of l).links s.positions
  passed-good = convexity-good room s.counts s.positions s.links (swept-good l e)

  abbrev entering : ℕ → Bool
  entering i = enters room (passed_of l).counts (passed_of l).links s.positions (skipped_of l) point i

  pub fill-count : (n : ℕ) → n ≤ N → (fill_of l n).counts.vertices ≡ (passed_of l).counts.vertices + count n entering
  fill-count n k = fill-vertices room passed-good (skipped_of l) point (points-range l e) n k

  pub record PointRefused (a : ℕ) : Type 0 where
    pub at : PointStops l a
    pub skipped : skipped_of l a ≡ true
    pub last : (fill_of l N).counts.vertices ≡ suc (insert_vertex l a)

  point-stopped : (a : ℕ) → (fill_of l a).full ≡ false → T (skipped_of l a) → (insert_of l a).mesh.full ≡ true → (fill_of l (suc a)).full ≡ true
  unfolding fill_after
  point-stopped a f t g = fill-full room (fill_of l a) (point a) f (is_true (skipped_of l a) t) g

  point-enters : (a : ℕ) → (fill_of l a).full ≡ false → T (skipped_of l a) → T (is_new (insert_of l a).place) → entering a ≡ true
  unfolding enters
  point-enters a f t n = rw (f, is_true (skipped_of l a) t) (is_true (is_new (insert_of l a).place) n)

  pub point-refused : (fill_of l N).full ≡ true → PointRefused (fill_of l N).answered
  point-refused f = record {
    at = record { earlier = A.short f; made = A.before f; stopped = stopped };
    skipped = is_true (skipped_of l a) (A.at f);
    last =
        let k = A.short f in
        let u = fill-number room passed-good (skipped_of l) point (points-range l e) {i = a} {n = N} k (omega arith) (A.at f) (A.before f) new in
        let v = ap (λ (x : Filling). x.counts.vertices) (stays-to (λ (x : Filling). x.full) (fill_of l) (fill_on l) (suc a) N k stopped) in
        let w = fill-count (suc a) k in
        let d = count-suc a entering in
        let b = ap bit (point-enters a (A.before f) (A.at f) new) in
        omega arith;
  }
    where
      A : Answers room (passed_of l).counts (passed_of l).links s.positions (skipped_of l) point N (fill_of l N)
      A = fill-answered room (passed_of l).counts (passed_of l).links s.positions (skipped_of l) point N

      a : ℕ
      a = (fill_of l N).answered

      stopped : (fill_of l (suc a)).full ≡ true
      stopped = point-stopped a (A.before f) (A.at f) (A.here f)

      new : T (is_new (insert_of l a).place)
      new =
          let x = fill_of l a in
          from-true (full-new room x.counts x.links x.positions (point a) (A.here f))

  -- ---- the cases
  pub data Ended : Type 0 where
    -- in a step
    at-step : s.full ≡ true → c.place ≡ s.answered → c.inserted ≡ 0 → c.mesh.counts ≡ s.counts → c.mesh.full ≡ true → Ended
    -- in the first convexity passes
    at-passes : s.full ≡ false → (passed_of l).full ≡ true → c.place ≡ N → c.inserted ≡ 0 → Ended
    -- at a skipped point
    at-point : s.full ≡ false → (passed_of l).full ≡ false → (fill_of l N).full ≡ true → c.place ≡ (fill_of l N).answered
        → c.inserted ≡ (fill_of l N).answered → c.mesh.counts ≡ (fill_of l N).counts → c.mesh.full ≡ true → Ended
    -- later, or nowhere
    at-end : s.full ≡ false → (passed_of l).full ≡ false → (fill_of l N).full ≡ false → c.place ≡ N → c.inserted ≡ N → Ended

  pub ended : Ended
  ended = go s.full refl (passed_of l).full refl (fill_of l N).full refl
    where
      go : (x : Bool) → s.full ≡ x → (y : Bool) → (passed_of l).full ≡ y → (w : Bool) → (fill_of l N).full ≡ w → Ended
      go true f y p w q =
          let r = refused-is l e f in
          at-step f (ap (λ (k : Completing). k.place) r) (ap (λ (k : Completing). k.inserted) r)
          (ap (λ (k : Completing). k.mesh.counts) r) (ap (λ (k : Completing). k.mesh.full) r)
      go false f true p w q =
          let r = completed-is l e f in
          let k = complete-passed room s.counts s.links s.positions (skipped_of l) point N p in
          at-passes f p (ap (λ (k : Completing). k.place) r ∙ k.0) (ap (λ (k : Completing). k.inserted) r ∙ k.1)
      go false f false p true q =
          let r = completed-is l e f in
          let k = complete-at room s.counts s.links s.positions (skipped_of l) point N p q in
          at-point f p q (ap (λ (k : Completing). k.place) r ∙ k.place) (ap (λ (k : Completing). k.inserted) r ∙ k.inserted)
          (ap (λ (k : Completing). k.mesh.counts) r ∙ k.counts) (ap (λ (k : Completing). k.mesh.full) r ∙ k.full)
      go false f false p false q =
          let r = completed-is l e f in
          let k = complete-all room s.counts s.links s.positions (skipped_of l) point N p q in
          at-end f p q (ap (λ (k : Completing). k.place) r ∙ k.0) (ap (λ (k : Completing). k.inserted) r ∙ k.1)

  -- ---- the answer
  answer-is : (run_of l).answer ≡ record { counts = c.mesh.counts; finished = finished_from c.place c.mesh }
  answer-is = ap (λ (r : RunOutcome). r.answer) (run_is l e)

  pub made-is : is_made (run_of l).answer.finished ≡ true
  made-is = ap (λ (r : FinishAnswer). is_made r.finished) answer-is ∙ finished-made c.place c.mesh

  place_is : place_of N (run_of l).answer.finished ≡ cond c.mesh.full c.place N
  place_is = ap (λ (r : FinishAnswer). place_of N r.finished) answer-is ∙ finished-place N c.place c.mesh

  pub place_end : c.place ≡ N → place_of N (run_of l).answer.finished ≡ N
  place_end q = place_is ∙ ap (λ (x : ℕ). cond c.mesh.full x N) q ∙ either c.mesh.full N

  pub place_at : c.mesh.full ≡ true → place_of N (run_of l).answer.finished ≡ c.place
  place_at f = place_is ∙ ap (λ (b : Bool). cond b c.place N) f

  pub vertices-are : (run_of l).answer.counts.vertices ≡ c.mesh.counts.vertices
  vertices-are = ap (λ (r : FinishAnswer). r.counts.vertices) answer-is
