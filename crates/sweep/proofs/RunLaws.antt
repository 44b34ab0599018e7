-- THE THEOREM of the whole run, for every seed, centre and list of points: a run that is answered with no refusal number meets demand 3;
-- one that is refused 9 leaves a good mesh and the answers that stand; and one that is refused another number changes nothing.
-- One file, though a long one: all of it is about one run, whose stages are named once, at its beginning. Assumes nothing.
use Rattle.std.specs.Prelude.{Bool, ◌&&◌, ◌⊎◌, ℕ, ◌+◌, ◌*◌, ◌<◌, ◌≤◌, ltb, eqb, ◌-ℤ◌, length, replicate, ◌≤ℤ◌, Ok, Err}
use Rattle.std.proofs.Math.Bool.{true, false, cond, not}
use Rattle.std.proofs.lemmas.Bool.{false≢true}
use Rattle.std.proofs.Common.{inl, inr, ◌∙◌, ap₂, subst, lt-ltb, ltb-false, eq-eqb}
use Rattle.std.proofs.Math.Path.{◌≡◌, refl, sym, ap, subst⁻¹}
use native.Mathlib.Omega.{arith}
use Rattle.std.proofs.Math.Dec.{T}
use Rattle.std.proofs.Math.IntN.{pos}
use Rattle.closing.specs.Closing.{Closing, closing_pass}
use Rattle.convexity.specs.Convexity.{NoLeftCorner}
use Rattle.corner.specs.Untouched.{Untouched, untouched-join}
use Rattle.dcel.specs.MeshRows.{links_in, places_in, mesh_rows_from}
use Rattle.dcel.specs.Rows.{position_of, row_of, row_from_of}
use Rattle.dcel.specs.Views.{length_from}
use Rattle.decide.specs.declared.Fate.{Fate}
use Rattle.decide.specs.declared.Fate.TheVariants.{Added, Dropped, NotLeft, Unsound, AtCenter}
use Rattle.decide.specs.Decide.{fate_vertex}
use Rattle.finish.specs.Finished.{Finished}
use Rattle.finish.specs.declared.Totals.{Totals}
use Rattle.finish.specs.CallLeavesLaws.{in_rows, call-leaves}
use Rattle.finish.specs.Finish.{totals_from, finished_from}
use Rattle.locate.specs.Start.{AcceptedStart}
use Rattle.math.specs.declared.Point.{Point}
use Rattle.math.specs.Determinant.{InRange}
use Rattle.mesh.specs.declared.Counts.{Counts}
use Rattle.mesh.specs.Mesh.{Links}
use Rattle.mesh.specs.Area.{height_sum}
use Rattle.mesh.specs.Circle.{Settled}
use Rattle.mesh.proofs.CircleLawsFacts.{settled-far}
use Rattle.mesh.specs.FlipRun.{FlipRun}
use Rattle.mesh.specs.Good.{Good}
use Rattle.mesh_check.specs.Checked.{Checked}
use Rattle.mesh_check.specs.declared.Refusal.{Refusal}
use Rattle.mesh_check.specs.Check.{point_count, vertex_count}
use Rattle.mesh_check.specs.CheckLaws.{NumberedTo}
use Rattle.ring.proofs.Boundary.{strict-ring}
use Rattle.ring.specs.Center.{turns_about}
use Rattle.ring_rows.specs.RingRows.{ring_zeros}
use Rattle.start.specs.StartLaws.{AcceptedSweep, sweep-accepts, sweep-numbered}
use Rattle.sweep.specs.Step.{answer_of, is_added}
use Rattle.sweep.specs.StepMesh.{Swept}
use Rattle.sums.specs.Bounded.{count}
use Rattle.sums.proofs.BoundedLaws.{count-ext, count-before, count-parts, count-apart}
use Rattle.sweep.specs.Run.{Sweeping, answer_words, answer_in, answer_word, RunLent, RunOutcome, ran_with, run_checked, sweep_of, steps_of, run_outcome, run_of, complete_after, skipped_of, run_completes, passed_of, fill_of, insert_of, inserted_word, run_answers, is_skipped}
use Rattle.sweep.specs.SweepLaws.{SweepKeeps}
use Rattle.sweep.proofs.SweepLawsFacts.{sweep-keeps}
use Rattle.sweep.specs.Demand3.{fate_of, vertex_of, added_before, before_closing, Demand3, RunLeaves, Full, Ran, is_entered, is_vertex, is_run_fate, entered_before}
use Rattle.corner.specs.Corner.{Extended}
use Rattle.location.specs.declared.PositionInTriangulation.{PositionInTriangulation}
use Rattle.skipped.specs.Insert.{is_new}
use Rattle.skipped.specs.Fill.{inserted_vertex, insert_word, enters, Completing, complete_mesh}
use Rattle.sums.specs.Bit.{bit}
use Rattle.sums.proofs.BitLaws.{from-true, is_true, and_left, and_right, or_cases}
use Rattle.sweep.proofs.RunAnswers.{answer_at, answer-past, word-is, word-past}
use Rattle.sweep.proofs.RunFates.{number_of, one-added, entered-new, run-fate, nine-skipped, added-not-skipped, added-vertex, parts-of, apart_of, is-added-point, three-skipped, four-skipped, five-skipped}
use Rattle.skipped.proofs.CompleteLaws as complete

-- ---- what the checks accept
module _ (l : RunLent) (e : run_checked l ≡ Ok tt) where
  abbrev n : ℕ
  n = point_count l.points

  abbrev L : Links
  L = links_in l.mesh

  abbrev p : ℕ → Point
  p = places_in l.mesh

  abbrev s : Sweeping
  s = sweep_of l n

  abbrev room : ℕ
  room = length l.pending

  abbrev point : ℕ → Point
  point = position_of l.points

  -- the mesh after the first convexity passes, and what is left
  abbrev v : Extended
  v = passed_of l

  abbrev c : Completing
  c = run_completes l

  -- the finish of the mesh that the steps left
  abbrev z : Completing
  z = complete_mesh room s.counts s.links s.positions (skipped_of l) point n

  pub run-accepts : AcceptedSweep l.points (ltb (length l.answers) (answer_words * n)) l.counts l.mesh
      (length l.ring.nodes) (length l.ring.freed) (length l.ring.buckets) (length l.pending) l.center
  unfolding run_checked
  run-accepts = sweep-accepts e

  pub run-start : AcceptedStart l.points l.counts l.mesh l.center
  run-start = run-accepts.start

  answers-room : answer_words * n ≤ length l.answers
  answers-room = ltb-false (length l.answers) (answer_words * n) run-accepts.others

  pub run-swept : Swept l.center.x l.center.y l.counts L p
  run-swept = record {
    good = run-start.mesh.good;
    center = run-start.center;
    sound = strict-ring run-start.mesh.good.wf (turns_about l.center.x l.center.y p) run-start.strict;
  }

  -- the steps
  pub run-keeps : SweepKeeps (length l.pending) l.center.x l.center.y l.counts L p (position_of l.points) n s
  run-keeps = sweep-keeps (length l.pending) run-swept (position_of l.points) n (λ i k. run-start.mesh.range k)

  pub swept-good : Good s.counts s.links s.positions
  swept-good = run-keeps.good

  pub points-range : (i : ℕ) → i < n → InRange (point i)
  points-range i k = run-start.mesh.range k

  abbrev adds : ℕ → Bool
  adds i = is_added (steps_of l i).fate

  abbrev entering : ℕ → Bool
  entering i = enters room v.counts v.links s.positions (skipped_of l) point i

  abbrev placed : ℕ → PositionInTriangulation
  placed i = (insert_of l i).place

  abbrev vertex_in : ℕ → ℕ
  vertex_in i = inserted_vertex room v.counts v.links s.positions (skipped_of l) point i

  -- ---- by whether a step was refused a flip
  abbrev stopped : Completing
  stopped = record {
    mesh = record { counts = s.counts; links = s.links; faces = 0; convexflips = 0; closingflips = 0; full = true };
    positions = s.positions;
    place = s.answered;
    inserted = 0;
  }

  pub refused-is : s.full ≡ true → c ≡ stopped
  unfolding complete_after
  refused-is f = ap (λ (b : Bool). cond b stopped z) f

  pub completed-is : s.full ≡ false → c ≡ z
  unfolding complete_after
  completed-is f = ap (λ (b : Bool). cond b stopped z) f

  -- no point is added and put in as well
  pub one_each : count n adds + count n entering ≤ n
  unfolding enters
  one_each = count-apart n adds entering (λ i _. apart_of (steps_of l i).fate (fill_of l i).full (is_new (placed i)))

  record Keeps (c : Completing) : Type 0 where
    good : Good c.mesh.counts c.mesh.links c.positions
    untouched : Untouched c.mesh.counts L c.mesh.links
    most : c.mesh.counts.vertices ≤ l.counts.vertices + n
    places : (u : ℕ) → u < l.counts.vertices → c.positions u ≡ p u
    past : (u : ℕ) → c.mesh.counts.vertices ≤ u → c.positions u ≡ p u
    within : c.place ≤ n

  keeps : Keeps c
  keeps = go s.full refl
    where
      go : (b : Bool) → s.full ≡ b → Keeps c
      go true f = subst⁻¹ Keeps (refused-is f) (record {
        good = swept-good;
        untouched = run-keeps.untouched;
        most = run-keeps.most;
        places = run-keeps.places;
        past = run-keeps.past;
        within = run-keeps.answered-most;
      })
      go false f =
          let g = complete.complete-grown room swept-good (skipped_of l) point n points-range in
          subst⁻¹ Keeps (completed-is f) (record {
            good = complete.complete-good room swept-good (skipped_of l) point n points-range;
            untouched = untouched-join g run-keeps.untouched (complete.complete-untouched room swept-good (skipped_of l) point n points-range);
            most = let a = complete.complete-most room swept-good (skipped_of l) point n points-range in
                let b = run-keeps.number f in let d = one_each in omega arith;
            places = λ u k. complete.complete-old room swept-good (skipped_of l) point n points-range u (let a = run-keeps.grown in omega arith)
                ∙ run-keeps.places u k;
            past = λ u k. complete.complete-past room swept-good (skipped_of l) point n points-range u k ∙ run-keeps.past u (omega arith);
            within = complete.complete-place room swept-good (skipped_of l) point n points-range;
          })

  -- ---- the rows hold all of it
  most : c.mesh.counts.vertices ≤ vertex_count l.counts l.points
  unfolding vertex_count
  most = keeps.most

  -- ---- the outcome
  abbrev R : RunOutcome
  R =
      ran_with (record { counts = c.mesh.counts; finished = finished_from c.place c.mesh })
      (mesh_rows_from l.mesh c.mesh.links c.positions) (ring_zeros l.ring) (replicate (length l.pending) 0)
      (row_from_of (length l.answers) (run_answers l))

  pub run_is : run_of l ≡ R
  unfolding run_of run_outcome
  run_is = rw e refl

  leaves : RunLeaves l R
  leaves = record {
    leaves = call-leaves l.mesh run-start.mesh.rows most keeps.good keeps.untouched keeps.past
        l.counts keeps.places l.pending;
    ring-zero = refl;
    answers-past = λ x k. answer-past (run_answers l) l.answers x
        (word-past (inserted_word l) (skipped_of l) c.inserted (steps_of l) s.answered n (row_of l.answers) x k);
    answers-length = length_from (length l.answers) _;
  }

  -- a fact of the mesh that is left is one of the rows
  written : (F : Links → (ℕ → Point) → Type 0) → F c.mesh.links c.positions → F (links_in R.mesh) (places_in R.mesh)
  written = in_rows l.mesh run-start.mesh.rows most keeps.good keeps.untouched keeps.past

  -- ---- the answers
  pub word : (i k : ℕ) → i < n → k < answer_words → answer_in R.answers i k
      ≡ cond (skipped_of l i) (cond (ltb i c.inserted) (inserted_word l i k) 0)
      (cond (ltb i s.answered) (answer_word (answer_of (steps_of l i)) k) 0)
  word i k a b =
      answer_at (run_answers l) l.answers (answer_words * i + k) (let r = answers-room in omega arith)
      ∙ word-is (inserted_word l) (skipped_of l) c.inserted (steps_of l) s.answered n (row_of l.answers) i k a b

  -- ---- 9
  full : Full l R c.place
  full = record {
    within = keeps.within;
    words = λ x k. answer_at (run_answers l) l.answers x (let r = answers-room in omega arith);
    leaves = leaves;
  }

  -- ---- no flip was refused
  module _ (f : c.mesh.full ≡ false) where
    steps-made : s.full ≡ false
    steps-made = go s.full refl
      where
        go : (b : Bool) → s.full ≡ b → s.full ≡ false
        go true q = absurd (false≢true (sym f ∙ ap (λ (x : Completing). x.mesh.full) (refused-is q)))
        go false q = q

    made : c ≡ z
    made = completed-is steps-made

    whole : z.mesh.full ≡ false
    whole = ap (λ (x : Completing). x.mesh.full) (sym made) ∙ f

    reached : (i : ℕ) → i < n → (fill_of l i).full ≡ false
    reached = complete.complete-reached room swept-good (skipped_of l) point n points-range whole

    -- the answer of point i
    answer-is : (i k : ℕ) → i < n → k < answer_words
        → answer_in R.answers i k ≡ cond (skipped_of l i) (inserted_word l i k) (answer_word (answer_of (steps_of l i)) k)
    answer-is i k a b =
        word i k a b
        ∙ ap₂ (λ (x y : Bool). cond (skipped_of l i) (cond x (inserted_word l i k) 0) (cond y (answer_word (answer_of (steps_of l i)) k) 0))
        (lt-ltb i c.inserted (let q = ap (λ (x : Completing). x.inserted) made
        ∙ complete.complete-inserted room swept-good (skipped_of l) point n points-range whole in omega arith))
        (lt-ltb i s.answered (let q = run-keeps.answered steps-made in omega arith))

    fate-is : (i : ℕ) → i < n → fate_of R i ≡ number_of (steps_of l i).fate (placed i)
    unfolding answer_word insert_word
    fate-is i a = answer-is i 0 a (omega arith)

    vertex-is : (i : ℕ) → i < n → vertex_of R i ≡ cond (skipped_of l i) (vertex_in i) (fate_vertex (steps_of l i).fate)
    unfolding answer_word insert_word
    vertex-is i a = answer-is i 1 a (omega arith)

    -- ---- counts
    entering-is : (i : ℕ) → i < n → entering i ≡ (skipped_of l i && is_new (placed i))
    unfolding enters
    entering-is i a = ap (λ (b : Bool). not b && (skipped_of l i && is_new (placed i))) (reached i a)

    ones : (k : ℕ) → k ≤ n → added_before R k ≡ count k adds
    ones k a = count-ext k (λ j. eqb (fate_of R j) 1) adds
        (λ i b. ap (λ (x : ℕ). eqb x 1) (fate-is i (omega arith)) ∙ one-added (steps_of l i).fate (placed i))

    entered-are : (k : ℕ) → k ≤ n → entered_before R k ≡ count k entering
    entered-are k a =
        count-ext k (λ j. is_entered (fate_of R j)) entering
        (λ i b. ap is_entered (fate-is i (omega arith)) ∙ entered-new (steps_of l i).fate (placed i) ∙ sym (entering-is i (omega arith)))

    all : count n (λ j. is_vertex (fate_of R j)) ≡ count n adds + count n entering
    all =
        count-parts n adds entering (λ j. is_vertex (fate_of R j))
        (λ i b. ap (λ (x : ℕ). bit (is_vertex x)) (fate-is i b) ∙ parts-of (steps_of l i).fate (placed i)
        ∙ ap (λ (x : Bool). bit (adds i) + bit x) (sym (entering-is i b)))

    -- ---- a point that a step added
    module _ (i : ℕ) (a : i < n) (t : T (adds i)) where
      step_added : (fate_vertex (steps_of l i).fate ≡ l.counts.vertices + count i adds)
          × (s.positions (fate_vertex (steps_of l i).fate) ≡ point i)
      step_added = run-keeps.added steps-made i (fate_vertex (steps_of l i).fate) a (added-vertex (steps_of l i).fate t)

      step-number : vertex_of R i ≡ fate_vertex (steps_of l i).fate
      step-number = vertex-is i a
          ∙ ap (λ (b : Bool). cond b (vertex_in i) (fate_vertex (steps_of l i).fate)) (added-not-skipped (steps_of l i).fate t)

      step-place : places_in R.mesh (vertex_of R i) ≡ point i
      step-place =
          let k = count-before i n adds a t in let m = run-keeps.number steps-made in let q = step_added.0 in
          ap (places_in R.mesh) step-number
          ∙ written (λ K P. P (fate_vertex (steps_of l i).fate) ≡ point i)
          (ap (λ (x : Completing). x.positions (fate_vertex (steps_of l i).fate)) made
          ∙ complete.complete-old room swept-good (skipped_of l) point n points-range (fate_vertex (steps_of l i).fate) (omega arith)
          ∙ step_added.1)

    -- ---- a point that was skipped
    module _ (i : ℕ) (a : i < n) (t : T (skipped_of l i)) where
      skipped-number : vertex_of R i ≡ vertex_in i
      skipped-number = vertex-is i a
          ∙ ap (λ (b : Bool). cond b (vertex_in i) (fate_vertex (steps_of l i).fate)) (is_true (skipped_of l i) t)

      skipped-place : places_in R.mesh (vertex_of R i) ≡ point i
      skipped-place =
          ap (places_in R.mesh) skipped-number
          ∙ written (λ K P. P (vertex_in i) ≡ point i)
          (ap (λ (x : Completing). x.positions (vertex_in i)) made
          ∙ complete.complete-here room swept-good (skipped_of l) point n points-range whole a t)

      skipped-used : vertex_of R i < c.mesh.counts.vertices
      skipped-used =
          let q = skipped-number in let k = complete.complete-used room swept-good (skipped_of l) point n points-range whole a t in
          let m = ap (λ (x : Completing). x.mesh.counts.vertices) made in omega arith

    -- ---- by the fate's number
    added-by : (i : ℕ) → i < n → T (eqb (fate_of R i) 1) → T (adds i)
    added-by i a t = subst T (ap (λ (x : ℕ). eqb x 1) (fate-is i a) ∙ one-added (steps_of l i).fate (placed i)) t

    entered_by : (i : ℕ) → i < n → T (is_entered (fate_of R i)) → T (skipped_of l i && is_new (placed i))
    entered_by i a t = subst T (ap is_entered (fate-is i a) ∙ entered-new (steps_of l i).fate (placed i)) t

    skipped-by : (i : ℕ) → i < n → T (is_entered (fate_of R i)) → T (skipped_of l i)
    skipped-by i a t = and_left (skipped_of l i) (is_new (placed i)) (entered_by i a t)

    vertex-place : (i : ℕ) → i < n → T (is_vertex (fate_of R i)) → places_in R.mesh (vertex_of R i) ≡ point i
    unfolding is_vertex
    vertex-place i a t = go (or_cases (eqb (fate_of R i) 1) (is_entered (fate_of R i)) t)
      where
        go : T (eqb (fate_of R i) 1) ⊎ T (is_entered (fate_of R i)) → places_in R.mesh (vertex_of R i) ≡ point i
        go (inl u) = step-place i a (added-by i a u)
        go (inr u) = skipped-place i a (skipped-by i a u)

    entered-number : (i : ℕ) → i < n → T (is_entered (fate_of R i))
        → vertex_of R i ≡ l.counts.vertices + added_before R n + entered_before R i
    entered-number i a t =
        let u = entered_by i a t in
        let q = skipped-number i a (skipped-by i a t) in
        let k = complete.complete-number room swept-good (skipped_of l) point n points-range whole a (skipped-by i a t)
        (and_right (skipped_of l i) (is_new (placed i)) u) in
        let m = run-keeps.number steps-made in let o = ones n (omega arith) in let d = entered-are i (omega arith) in
        omega arith

    -- NO POINT IS LOST, by what its step did
    every_in : (i : ℕ) → i < n → (u : ℕ) × (u < c.mesh.counts.vertices) × (places_in R.mesh u ≡ point i)
    every_in i a = go (steps_of l i).fate refl
      where
        most-used : (u : ℕ) → u < s.counts.vertices → u < c.mesh.counts.vertices
        most-used u k =
            let m = ap (λ (x : Completing). x.mesh.counts.vertices) made in
            let g = (complete.complete-grown room swept-good (skipped_of l) point n points-range).vertices in omega arith

        here : (f : Fate) → (steps_of l i).fate ≡ f → T (is_skipped f) → (u : ℕ) × (u < c.mesh.counts.vertices) × (places_in R.mesh u ≡ point i)
        here f e t = let k = subst⁻¹ (λ (f : Fate). T (is_skipped f)) e t in (vertex_of R i, skipped-used i a k, skipped-place i a k)

        go : (f : Fate) → (steps_of l i).fate ≡ f → (u : ℕ) × (u < c.mesh.counts.vertices) × (places_in R.mesh u ≡ point i)
        go (Added v) e =
            let t : T (adds i) = from-true (ap is_added e ∙ is-added-point v) in
            let k = count-before i n adds a t in let m = run-keeps.number steps-made in let q = (step_added i a t).0 in
            let w = step-number i a t in
            (vertex_of R i, most-used (vertex_of R i) (omega arith), step-place i a t)
        go Dropped e =
            let (u, k, q) = run-keeps.dropped steps-made i a e in (
              u,
              most-used u k,
              written (λ M P. P u ≡ point i)
                  (ap (λ (x : Completing). x.positions u) made ∙ complete.complete-old room swept-good (skipped_of l) point n points-range u k ∙ q),
            )
        go NotLeft e = here NotLeft e three-skipped
        go Unsound e = here Unsound e four-skipped
        go AtCenter e = here AtCenter e five-skipped

    demand-3 : (t : Totals) → t.closingflips ≡ c.mesh.closingflips → Demand3 l R t
    unfolding complete_mesh
    demand-3 t q = record {
      seed = leaves.leaves.seed;
      place = vertex-place;
      vertex = λ i a y.
          let t = added-by i a (from-true (eq-eqb (fate_of R i) 1 y)) in
          step-number i a t ∙ (step_added i a t).0 ∙ ap (λ (k : ℕ). l.counts.vertices + k) (sym (ones i (omega arith)));
      entered = entered-number;
      number = ap (λ (x : Completing). x.mesh.counts.vertices) made ∙ vertices;
      fates = λ i a. subst⁻¹ (λ (x : ℕ). T (is_run_fate x)) (fate-is i a) (run-fate (steps_of l i).fate (placed i));
      on-vertex = λ i a y.
          let t = from-true (nine-skipped (steps_of l i).fate (placed i) (sym (fate-is i a) ∙ y)) in
          (skipped-used i a t, skipped-place i a t);
      all_in = every_in;
      rules = leaves.leaves.good.wf;
      turning = leaves.leaves.good.turning;
      area = leaves.leaves.area;
      corners = there (λ C M P k. NoLeftCorner C M P) (complete.complete-convex room swept-good (skipped_of l) point n points-range whole);
      circles = settled-far leaves.leaves.good
          (there (λ C M P k. Settled C M P) (complete.complete-settled room swept-good (skipped_of l) point n points-range whole));
      closing = there (λ C M P k. ◌≡◌ {A = Closing} (record { links = M; flips = k }) (closing_pass C P (before_closing l)))
          (complete.complete-closing room swept-good (skipped_of l) point n points-range whole);
      flips = there (λ C M P k. FlipRun C P (before_closing l) M k)
          (complete.complete-flips room swept-good (skipped_of l) point n points-range);
      fall = there (λ C M P k. pos k ≤ℤ (height_sum C (before_closing l) P -ℤ height_sum C M P))
          (complete.complete-fall room swept-good (skipped_of l) point n points-range);
    }
      where
        vertices : z.mesh.counts.vertices ≡ l.counts.vertices + count n (λ j. is_vertex (fate_of R j))
        vertices =
            let k = complete.complete-vertices room swept-good (skipped_of l) point n points-range whole in
            let m = run-keeps.number steps-made in let b = all in
            omega arith

        -- a fact of the finished mesh and of its closing flips is one of the rows and of the answer
        there : (F : Counts → Links → (ℕ → Point) → ℕ → Type 0)
            → F z.mesh.counts z.mesh.links z.positions z.mesh.closingflips
            → F c.mesh.counts (links_in R.mesh) (places_in R.mesh) t.closingflips
        there F x =
            subst⁻¹ (F c.mesh.counts (links_in R.mesh) (places_in R.mesh)) q
            (written (λ M P. F c.mesh.counts M P c.mesh.closingflips)
            (subst⁻¹ (λ (y : Completing). F y.mesh.counts y.mesh.links y.positions y.mesh.closingflips) made x))

-- ---- by what is answered
module _ (l : RunLent) where
  -- DEMAND 3, with no hypothesis beyond acceptance
  pub run-accepted : (t : Totals) → (run_of l).answer.finished ≡ Ok t → Demand3 l (run_of l) t × RunLeaves l (run_of l)
  unfolding run_of run_outcome finished_from totals_from
  run-accepted t z = by (run_checked l) refl
    where
      at : (e : run_checked l ≡ Ok tt) (b : Bool) → (run_completes l).mesh.full ≡ b → Demand3 l (run_of l) t × RunLeaves l (run_of l)
      at e true f =
          let x : Err (record { number = 9; place = (run_completes l).place })
          ≡ Ok t = sym (rw (run_is l e, f) refl) ∙ z in
          absurd (let w : ◌≡◌ {A = ℕ} 0 1 = cc in omega arith)
      at e false f =
          let x : Ok (totals_from (run_completes l).mesh) ≡ Ok t = sym (rw (run_is l e, f) refl) ∙ z in
          let y : totals_from (run_completes l).mesh ≡ t = cc in
          subst⁻¹ (λ (r : RunOutcome). Demand3 l r t × RunLeaves l r) (run_is l e)
          (demand-3 l e f t (ap (λ (u : Totals). u.closingflips) (sym y)), leaves l e)

      by : (c : Checked) → run_checked l ≡ c → Demand3 l (run_of l) t × RunLeaves l (run_of l)
      by (Ok tt) e = at e (run_completes l).mesh.full refl
      by (Err x) e =
          let y : Err x ≡ Ok t = rw e at z in
          absurd (let w : ◌≡◌ {A = ℕ} 0 1 = cc in omega arith)

  run-numbered : NumberedTo 7 (run_checked l)
  unfolding run_checked
  run-numbered = sweep-numbered l.points _ l.counts l.mesh _ _ _ _ l.center

  -- a refusal: of the checks, numbered 1 to 7, and nothing has changed; or 9
  pub run-refused : (x : Refusal) → (run_of l).answer.finished ≡ Err x
      → (NumberedTo 7 (Err x) × (run_checked l ≡ Err x) × (run_of l
      ≡ ran_with (record { counts = l.counts; finished = Err x }) l.mesh l.ring l.pending l.answers))
      ⊎ ((x.number ≡ 9) × Full l (run_of l) x.place)
  unfolding run_of run_outcome finished_from totals_from
  run-refused x z = by (run_checked l) refl run-numbered
    where
      Wanted : Type 0
      Wanted =
          (NumberedTo 7 (Err x) × (run_checked l ≡ Err x) × (run_of l
          ≡ ran_with (record { counts = l.counts; finished = Err x }) l.mesh l.ring l.pending l.answers))
          ⊎ ((x.number ≡ 9) × Full l (run_of l) x.place)

      at : (e : run_checked l ≡ Ok tt) (b : Bool) → (run_completes l).mesh.full ≡ b → Wanted
      at e true f =
          let y : Err (record { number = 9; place = (run_completes l).place })
          ≡ Err x = sym (rw (run_is l e, f) refl) ∙ z in
          let w : record { number = 9; place = (run_completes l).place } ≡ x = cc in
          inr (
            ap (λ (r : Refusal). r.number) (sym w),
            subst⁻¹ (λ (r : RunOutcome). Full l r x.place) (run_is l e) (subst (Full l (R l e)) (ap (λ (r : Refusal). r.place) w) (full l e)),
          )
      at e false f =
          let y : Ok (totals_from (run_completes l).mesh) ≡ Err x = sym (rw (run_is l e, f) refl) ∙ z in
          absurd (let w : ◌≡◌ {A = ℕ} 0 1 = cc in omega arith)

      by : (c : Checked) → run_checked l ≡ c → NumberedTo 7 c → Wanted
      by (Ok tt) e k = at e (run_completes l).mesh.full refl
      by (Err y) e k =
          let u : Err y ≡ Err x = rw e at z in
          let w : y ≡ x = cc in
          inl (subst (λ (r : Refusal). NumberedTo 7 (Err r)) w k, e ∙ ap Err w, rw (e, w) refl)

  -- what a caller may rely on that reads the finished mesh
  pub record Finishes : Type 0 where
    pub checked : run_checked l ≡ Ok tt
    pub good : Good (run_of l).answer.counts (links_in (run_of l).mesh) (places_in (run_of l).mesh)
    pub most : (run_of l).answer.counts.vertices ≤ l.counts.vertices + point_count l.points

  pub run-finishes : (t : Totals) → (run_of l).answer.finished ≡ Ok t → Finishes
  unfolding run_of run_outcome
  run-finishes t z = by (run_checked l) refl
    where
      by : (c : Checked) → run_checked l ≡ c → Finishes
      by (Ok tt) e = record {
        checked = e;
        good = subst⁻¹ (λ (r : RunOutcome). Good r.answer.counts (links_in r.mesh) (places_in r.mesh)) (run_is l e) (leaves l e).leaves.good;
        most = subst⁻¹ (λ (r : RunOutcome). r.answer.counts.vertices ≤ l.counts.vertices + point_count l.points) (run_is l e)
            (keeps l e).most;
      }
      by (Err x) e =
          let y : Err x ≡ Ok t = rw e at z in
          absurd (let w : ◌≡◌ {A = ℕ} 0 1 = cc in omega arith)

-- an outcome that is the defined one meets the call's contract
pub run_ran : (l : RunLent) (r : RunOutcome) → r ≡ run_of l → Ran l r
run_ran l r e = record {
  is = e;
  demand3 = λ t z. subst⁻¹ (λ (x : RunOutcome). Demand3 l x t) e
      (run-accepted l t (sym (ap (λ (x : RunOutcome). x.answer.finished) e) ∙ z)).0;
}
