-- A bulk load whose sweep starts, from its seed to its answer: what each call is given, and the calls' contracts one after another as the
-- definition has them. Assumes nothing.
use Rattle.std.specs.Prelude.{Bool, true, false, cond, ◌≡◌, ltb, ℤ, length, replicate, drop, Ok}
use mathlib.Core.List.{List, ◌++◌}
use Rattle.std.proofs.Math.Path.{refl, sym, ap}
use Rattle.std.proofs.Common.{◌∙◌, subst, lt-ltb, le-ltb}
use Prim.Native.Nat.{ℕ, ◌+◌, ◌-◌, ◌*◌, ◌/◌, ◌%◌, ◌<◌, ◌≤◌}
use Rattle.std.proofs.Math.Decide.{dec_lt}
use native.Mathlib.Omega.{arith}
use Rattle.std.proofs.Math.ListN.{take, length-drop}
use Rattle.std.proofs.Math.Seq.{ext_get_or}
use Rattle.bulk_load.specs.declared.BulkLoadAnswer.{BulkLoadAnswer}
use Rattle.bulk_load.specs.Accepted.{BulkLoadAccepted, load-accepts}
use Rattle.bulk_load.specs.BulkLoad.{BulkLoadLent, BulkLoadOutcome, bulk_load_checked, bulk_load_of, count, counts, links, positions, seeded, seeded_word, rest_of, swept_answers, swept, loading_of, loaded_with, loaded_by}
use Rattle.bulk_load.proofs.LoadAnswers.{rows-again}
use Rattle.bulk_load.proofs.LoadLaws as load
use Rattle.bulk_load.proofs.PastLaws.{seed-rows}
use Rattle.bulk_load.proofs.RestFacts as rest
use Rattle.bulk_load.proofs.StoreLaws.{load_store}
use Rattle.dcel.specs.MeshRows.{MeshRows, mesh_rows, mesh_rows_from}
use Rattle.dcel.specs.Rows.{links_of, position_of, row_of, row_from_of}
use Rattle.dcel.specs.Views.{length_from, get_or-from}
use Rattle.finish.specs.declared.FinishAnswer.{FinishAnswer}
use Rattle.finish.specs.Finished.{Finished}
use Rattle.finish.specs.Finish.{finished_from}
use Rattle.heights.specs.Heights.{height_of}
use Rattle.hull_center.specs.HullCenter.{hull_center}
use Rattle.hull_center_rows.specs.CenterRows.{LastThreeIn, last-three-in}
use Rattle.math.specs.declared.Point.{Point}
use Rattle.mesh.specs.declared.Counts.{Counts}
use Rattle.mesh.proofs.CountsLaws.{count-edges, count-faces}
use Rattle.mesh.specs.Good.{Good}
use Rattle.mesh_check.specs.Checked.{Checked}
use Rattle.mesh_check.specs.Check.{point_count}
use Rattle.ring_rows.specs.RingRows.{RingRows, ring_zeros}
use Rattle.seed.specs.declared.SeedEnd.{SeedEnd}
use Rattle.surface.specs.StoredHeights.{finished_heights}
use Rattle.surface.specs.StoreReady.{StoreReady}
use Rattle.sweep.specs.Run.{RunLent, RunOutcome, run_lent, ran_with, answer_words, run_checked, run_completes, run_answers, run_of}
use Rattle.sweep.proofs.RunAnswers.{answer_at}
use Rattle.sweep.proofs.RunLaws.{run_is}
use Rattle.bulk_load_rows.specs.LoadRows.{answer_after, rest_lent, RestReady, RestLeaves}
use Rattle.bulk_load_rows.specs.RestRows.{run-pending, ran-pending, placed-from, drop-same, joined_length, joined-first, joined-last}
use Rattle.bulk_load_rows.specs.LoadSeeded.{outcome-is, heights-from, Seeded, counts-are, answered-is, ready-is, links-are, places-are, mesh-is, seed-answer, seed-old}

module _ (l : BulkLoadLent) (e : bulk_load_checked l ≡ Ok tt) {c : ℕ} {q₁ : List ℤ} {o₁ h₁ a₁ row₁ w₁ : List ℕ} {s : SeedEnd}
    (B : Seeded l c q₁ o₁ h₁ a₁ row₁ w₁ s) (r : s.ready ≡ true) where
  abbrev A : BulkLoadAccepted l
  A = load-accepts l e

  abbrev n : ℕ
  n = count l

  abbrev k : ℕ
  k = (seeded l).answered

  k-most : k ≤ n
  k-most = (rest.keeps l e).most

  abbrev m₁ : MeshRows
  m₁ = mesh_rows q₁ o₁ h₁ a₁

  ready : (seeded l).ready ≡ true
  ready = sym (ready-is B) ∙ r

  abbrev ring : RingRows
  ring = l.ring

  -- the run on the rows
  abbrev Z₁ : RunLent
  Z₁ = rest_lent s.counts m₁ ring row₁ w₁ l.points s.answered

  abbrev Z₂ : RunLent
  Z₂ = run_lent (counts l) (mesh_rows_from l.mesh (links l) (positions l)) ring row₁ (drop (answer_words * k) l.answers)
      (hull_center (counts l) (positions l)) (drop (2 * k) l.points)

  answers-left : drop (answer_words * k) w₁ ≡ drop (answer_words * k) l.answers
  answers-left = drop-same (answer_words * k) w₁ l.answers B.answers (seed-old B)

  first-same : Z₁ ≡ Z₂
  first-same =
      ap (λ (C : Counts). rest_lent C m₁ ring row₁ w₁ l.points s.answered) (counts-are B)
      ∙ ap (λ (j : ℕ). rest_lent (counts l) m₁ ring row₁ w₁ l.points j) (answered-is B)
      ∙ ap (λ (p : ℕ → Point). run_lent (counts l) m₁ ring row₁ (drop (answer_words * k) w₁) (hull_center (counts l) p) (drop (2 * k) l.points)) (places-are B)
      ∙ ap (λ (m : MeshRows). run_lent (counts l) m ring row₁ (drop (answer_words * k) w₁) (hull_center (counts l) (positions l)) (drop (2 * k) l.points)) (mesh-is B)
      ∙ ap (λ (v : List ℕ). run_lent (counts l) (mesh_rows_from l.mesh (links l) (positions l)) ring row₁ v (hull_center (counts l) (positions l))
      (drop (2 * k) l.points)) answers-left

  second-checked : run_checked Z₂ ≡ Ok tt
  unfolding rest_of
  second-checked =
      run-pending (counts l) (mesh_rows_from l.mesh (links l) (positions l)) ring row₁ l.pending (drop (answer_words * k) l.answers)
      (hull_center (counts l) (positions l)) (drop (2 * k) l.points) B.pending
      ∙ rest.rest-accepted l e (seed-rows l e) ready

  rest-checked : run_checked Z₁ ≡ Ok tt
  rest-checked = ap run_checked first-same ∙ second-checked

  -- it is the definition's
  run-same : run_of Z₁ ≡ run_of (rest_of l)
  unfolding rest_of
  run-same =
      ap run_of first-same
      ∙ ran-pending (counts l) (mesh_rows_from l.mesh (links l) (positions l)) ring row₁ l.pending (drop (answer_words * k) l.answers)
      (hull_center (counts l) (positions l)) (drop (2 * k) l.points) B.pending second-checked

  good : Good s.counts (links_of o₁ h₁ a₁) (position_of q₁)
  good = rw ((counts-are B), (links-are B), (places-are B)) (rest.seed-good l e (seed-rows l e) ready)

  few : s.counts.vertices ≤ n
  few = let a = rest.seed-most l e (seed-rows l e) ready in let b = k-most in let c = ap (λ (C : Counts). C.vertices) (counts-are B) in omega arith

  last-three : LastThreeIn s.counts q₁
  last-three =
      let z = A.sizes in
      let x₁ = z.positions in let x₂ = z.outs in let x₃ = z.halves in let x₄ = z.faces in
      let y₁ = B.lengths.positions in let y₂ = B.lengths.outs in let y₃ = B.lengths.halves in let y₄ = B.lengths.faces in
      let u = count-edges good.wf in let v = count-faces good.wf in let f = few in let m = A.most in
      last-three-in (record {
        room = record { outs = omega arith; halves = omega arith; faces = omega arith; small = omega arith };
        positions = omega arith;
        good = good;
      })

  pub to-rest : RestReady s.counts m₁ ring row₁ w₁ l.points s.answered
  to-rest =
      let a = (answered-is B) in let b = k-most in
      record {
        checked = rest-checked;
        center = last-three;
        answers-room = let r = A.answers-room in omega arith;
        points-room = let p = A.pairs in omega arith;
        most = let m = A.most in rw (answered-is B) (let c = rest.rest-count l e (seed-rows l e) ready in omega arith);
      }

  -- ---- after it
  loading-swept : loading_of l ≡ swept l
  unfolding loading_of
  loading-swept = rw (rest.ready-not-full l e (seed-rows l e) ready, ready) refl

  is-swept : bulk_load_of l ≡ loaded_by l (swept l)
  is-swept = load.load_is l e loading-swept

  -- what the run comes to
  abbrev R : RunOutcome
  R =
      let c = run_completes (rest_of l) in
      ran_with (record { counts = c.mesh.counts; finished = finished_from c.place c.mesh })
      (mesh_rows_from (rest_of l).mesh c.mesh.links c.positions) (ring_zeros (rest_of l).ring)
      (replicate (length (rest_of l).pending) 0) (row_from_of (length (rest_of l).answers) (run_answers (rest_of l)))

  ran : run_of Z₁ ≡ R
  ran = run-same ∙ run_is (rest_of l) (rest.rest-accepted l e (seed-rows l e) ready)

  module _ (m₂ : MeshRows) (ring₂ : RingRows) (row₂ w₂ : List ℕ) (x : FinishAnswer)
      (Q : RestLeaves s.answered (run_of Z₁) w₁ m₂ ring₂ row₂ w₂ x) where
    answer-swept : x ≡ (loaded_by l (swept l)).answer.finish
    unfolding loaded_by swept
    answer-swept =
        let c = run_completes (rest_of l) in
        Q.answer ∙ ap (λ (R : RunOutcome). answer_after s.answered R.answer) ran
        ∙ ap (λ (j : ℕ). answer_after j (record { counts = c.mesh.counts; finished = finished_from c.place c.mesh })) (answered-is B)
        ∙ ap (λ (f : Finished). record { counts = c.mesh.counts; finished = f }) (placed-from k c.place c.mesh)

    mesh-swept : m₂ ≡ (loaded_by l (swept l)).mesh
    unfolding loaded_by swept rest_of
    mesh-swept =
        let c = run_completes (rest_of l) in
        Q.mesh ∙ ap (λ (R : RunOutcome). R.mesh) ran
        ∙ rows-again l.mesh (links l) c.mesh.links (positions l) c.positions

    ring-swept : ring₂ ≡ (loaded_by l (swept l)).ring
    unfolding loaded_by swept rest_of
    ring-swept = Q.ring-is ∙ ap (λ (R : RunOutcome). R.ring) ran

    pending-swept : row₂ ≡ (loaded_by l (swept l)).pending
    unfolding loaded_by swept rest_of
    pending-swept = Q.pending-is ∙ ap (λ (R : RunOutcome). R.pending) ran

    -- the seed's answers, and then the run's
    abbrev joined : List ℕ
    joined = take (answer_words * k) w₁ ++ row_from_of (length (rest_of l).answers) (run_answers (rest_of l))

    joined_is : w₂ ≡ joined
    unfolding rest_of
    joined_is =
        Q.answers-are ∙ ap (λ (j : ℕ). take (answer_words * j) w₁ ++ (run_of Z₁).answers) (answered-is B)
        ∙ ap (λ (R : RunOutcome). take (answer_words * k) w₁ ++ R.answers) ran

    room : answer_words * k ≤ length w₁
    room = let a = A.answers-room in let b = k-most in let c = B.answers in omega arith

    rest-long : answer_words * k + length (rest_of l).answers ≡ length l.answers
    unfolding rest_of
    rest-long =
        let d = length-drop (answer_words * k) l.answers in let a = A.answers-room in let b = k-most in omega arith

    joined-entry : (y : ℕ) → y < length l.answers → row_of joined y ≡ swept_answers l y
    unfolding swept_answers
    joined-entry y a = go (dec_lt y (answer_words * k))
      where
        u : List ℕ
        u = row_from_of (length (rest_of l).answers) (run_answers (rest_of l))

        go : Dec (y < answer_words * k) → row_of joined y
            ≡ cond (ltb y (answer_words * k)) (seeded_word l (y / answer_words) (y % answer_words)) (run_answers (rest_of l) (y - answer_words * k))
        go (yes b) = joined-first (answer_words * k) w₁ u room y b ∙ seed-answer B y b ∙ rw (lt-ltb y (answer_words * k) b) refl
        go (no b) =
            let g = rest-long in
            let z : answer_words * k + (y - answer_words * k) ≡ y = omega arith in
            ap (row_of joined) (sym z) ∙ joined-last (answer_words * k) w₁ u room (y - answer_words * k)
            ∙ answer_at (run_answers (rest_of l)) (rest_of l).answers (y - answer_words * k) (omega arith)
            ∙ rw (le-ltb y (answer_words * k) (omega arith)) refl

    answers-swept : w₂ ≡ (loaded_by l (swept l)).answers
    unfolding loaded_by swept row_of
    answers-swept =
        let a = joined_length (answer_words * k) w₁ (row_from_of (length (rest_of l).answers) (run_answers (rest_of l))) room in
        let b = length_from (length (rest_of l).answers) (run_answers (rest_of l)) in
        let g = rest-long in
        let d = length_from (length l.answers) (swept_answers l) in
        joined_is ∙ ext_get_or 0 joined (row_from_of (length l.answers) (swept_answers l)) (omega arith)
        (λ y z. joined-entry y (omega arith) ∙ sym (get_or-from (length l.answers) (swept_answers l) 0 y (omega arith)))

    -- what the store of heights asks, and the end
    pub store-swept : StoreReady (point_count l.points) (length l.heights) (length l.point_heights_of) w₂ x
    store-swept =
        subst (λ (v : List ℕ). StoreReady (point_count l.points) (length l.heights) (length l.point_heights_of) v x)
        (ap (λ (B : BulkLoadOutcome). B.answers) is-swept ∙ sym answers-swept)
        (subst (λ (f : FinishAnswer). StoreReady (point_count l.points) (length l.heights) (length l.point_heights_of) (bulk_load_of l).answers f)
        (ap (λ (B : BulkLoadOutcome). B.answer.finish) is-swept ∙ sym answer-swept) (load_store l e))

    pub done-swept : (hs : List ℤ) → length hs ≡ length l.heights
        → height_of hs ≡ finished_heights x w₂ (height_of l.point_heights_of) (height_of l.heights) (point_count l.points)
        → loaded_with (record { finish = x; line = false }) m₂ hs ring₂ row₂ w₂ ≡ bulk_load_of l
    done-swept hs a b =
        outcome-is (ap (λ (f : FinishAnswer). record { finish = f; line = false }) answer-swept ∙ marked) mesh-swept
        (heights-from l (swept l) hs a b answer-swept answers-swept) ring-swept pending-swept answers-swept
        ∙ sym is-swept
      where
        marked : ◌≡◌ {A = BulkLoadAnswer} (record { finish = (loaded_by l (swept l)).answer.finish; line = false }) (loaded_by l (swept l)).answer
        marked = ap (λ (b : Bool). record { finish = (loaded_by l (swept l)).answer.finish; line = b }) (sym (load.swept-mark l))
