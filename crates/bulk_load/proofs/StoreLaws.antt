-- Heights can be stored from the answers of a bulk load: the vertices that they name are in the rows. Assumes nothing.
use Rattle.std.specs.Prelude.{Bool, true, false, cond, List, ◌⊎◌, ◌≡◌, refl, ℕ, ◌+◌, ◌-◌, ◌*◌, ◌/◌, ◌%◌, ◌<◌, ◌≤◌, T, length, Ok, Err}
use Rattle.std.proofs.Common.{inl, inr, sym, ◌∙◌, subst, lt-ltb, le-ltb}
use Rattle.std.proofs.Math.Path.{ap}
use Rattle.std.proofs.Math.Decide.{dec_lt}
use native.Mathlib.Omega.{arith}
use Rattle.dcel.specs.Rows.{row_from_of}
use Rattle.dcel.specs.Views.{length_from}
use Rattle.finish.specs.declared.FinishAnswer.{FinishAnswer}
use Rattle.finish.specs.Finished.{Finished}
use Rattle.finish.specs.Finish.{Finishing, finish_mesh, totals_from, finished_from}
use Rattle.mesh.specs.declared.Counts.{Counts}
use Rattle.mesh_check.specs.Checked.{Checked}
use Rattle.mesh_check.specs.Check.{point_count}
use Rattle.sums.specs.Bit.{bit}
use Rattle.surface.proofs.RunVertices.{added-used, inserted-used, last-used}
use Rattle.surface.specs.StoredHeights.{fate_word, vertex_word, is_from, is_made, place_of}
use Rattle.surface.specs.StoreReady.{FateRoom, FatesRoom, StoreReady}
use Rattle.sweep.specs.Run.{RunOutcome, answer_words, run_checked, run_completes, run_of}
use Rattle.sweep.proofs.RunAnswers.{answer_at}
use Rattle.sweep.proofs.RunLaws.{run_is}
use Rattle.bulk_load.specs.BulkLoad.{BulkLoadLent, BulkLoadOutcome, bulk_load_checked, count, counts, positions, links, seeded, seed_answers, rest_of, swept, ended, lined, stopped, loaded_by, bulk_load_outcome, bulk_load_of}
use Rattle.bulk_load.specs.Demand3.{as_run}
use Rattle.bulk_load.proofs.EndedLaws.{all-taken, grown-most}
use Rattle.bulk_load.proofs.LoadAnswers.{zero_word}
use Rattle.bulk_load.proofs.LoadLaws as load
use Rattle.bulk_load.proofs.LoadLaws.{at-flip, at-start, at-mesh, at-line}
use Rattle.bulk_load.proofs.LoadLaws.{End, end_of, load_is}
use Rattle.bulk_load.proofs.PastLaws.{seed-rows}
use Rattle.bulk_load.proofs.RestFacts as rest
use Rattle.bulk_load.proofs.SweptLaws as swept-laws
use Rattle.bulk_load.proofs.SweptLaws.{RestAnswers}
use Rattle.bulk_load.proofs.SweptLaws.{SeedAnswers}

-- 0 is no fate
no_fate : {f : ℕ} → f ≡ 0 → (T (is_from 1 1 f) → ⊥) × (T (is_from 6 9 f) → ⊥)
unfolding is_from
no_fate e = rw e ((λ t. t), λ t. t)

-- a refusal 9 counted in the whole list
place-shift : (k n m place : ℕ) (z : Finishing) → k + m ≡ n → place_of n (finished_from (k + place) z) < n → place_of m (finished_from place z) < m
unfolding place_of finished_from
place-shift k n m place z q = go z.full
  where
    go : (b : Bool) → place_of n (cond b (Err (record { number = 9; place = k + place })) (Ok (totals_from z))) < n
        → place_of m (cond b (Err (record { number = 9; place = place })) (Ok (totals_from z))) < m
    go true a = omega arith
    go false a = absurd (omega arith)

place_end : (n : ℕ) (z : Finishing) → place_of n (finished_from n z) < n → ⊥
unfolding place_of finished_from
place_end n z = go z.full
  where
    go : (b : Bool) → place_of n (cond b (Err (record { number = 9; place = n })) (Ok (totals_from z))) < n → ⊥
    go true a = omega arith
    go false a = omega arith

module _ (l : BulkLoadLent) (e : bulk_load_checked l ≡ Ok tt) where
  -- the vertices that the answers name are in use, so below the number of points
  record Named (r : BulkLoadOutcome) : Type 0 where
    added : (i : ℕ) → i < count l → T (is_from 1 1 (fate_word r.answers i)) → vertex_word r.answers i < count l
    inserted : (i : ℕ) → i < count l → T (is_from 6 9 (fate_word r.answers i)) → vertex_word r.answers i < count l
    last : place_of (count l) r.answer.finish.finished < count l
        → (0 < r.answer.finish.counts.vertices) × (r.answer.finish.counts.vertices ≤ count l)

  -- those of the seed
  seed-named : (r : BulkLoadOutcome) → SeedAnswers l e (as_run r) → (counts l).vertices ≤ count l
      → (i : ℕ) → i < (seeded l).answered → vertex_word r.answers i < count l
  seed-named r A m i a = let u = swept-laws.seed-used l e (as_run r) A i a in omega arith

  full-vertices : (seeded l).growing.mesh.full ≡ true → (0 < (counts l).vertices) × ((counts l).vertices ≤ count l)
  full-vertices f =
      let v = (rest.keeps l e).vertices in
      let b = ap bit f in
      let m = rest.vertices-most l e in
      let s = (rest.keeps l e).stopped f in
      (omega arith, omega arith)

  stopped_named : (seeded l).growing.mesh.full ≡ true → Named (loaded_by l (stopped l))
  unfolding loaded_by stopped
  stopped_named f = record {
    added = λ i a t. go i a (dec_lt i (seeded l).answered) (λ z. (no_fate z).0 t);
    inserted = λ i a t. go i a (dec_lt i (seeded l).answered) (λ z. (no_fate z).1 t);
    last = λ a. full-vertices f;
  }
    where
      go : (i : ℕ) → i < count l → Dec (i < (seeded l).answered)
          → (fate_word (loaded_by l (stopped l)).answers i ≡ 0 → ⊥) → vertex_word (loaded_by l (stopped l)).answers i < count l
      go i a (yes b) n = seed-named (loaded_by l (stopped l)) (load.stopped-answers l e) (full-vertices f).1 i b
      go i a (no b) n = absurd (n (zero_word l e i 0 (omega arith) a (omega arith)))

  -- where every point was taken
  taken-named : (r : BulkLoadOutcome) → SeedAnswers l e (as_run r) → (q : (seeded l).ready ≡ false) (f : (seeded l).growing.mesh.full ≡ false)
      → (place_of (count l) r.answer.finish.finished < count l → ⊥) → Named r
  taken-named r A q f n =
      let k = all-taken l e (seed-rows l e) q f in
      let m = grown-most l e (seed-rows l e) q f in
      record {
        added = λ i a t. seed-named r A m i (omega arith);
        inserted = λ i a t. seed-named r A m i (omega arith);
        last = λ a. absurd (n a);
      }

  ended-last : place_of (count l) (loaded_by l (ended l)).answer.finish.finished < count l → ⊥
  unfolding loaded_by ended
  ended-last a = place_end (count l) (finish_mesh (length l.pending) (counts l) (positions l) (links l)) a

  lined-last : place_of (count l) (loaded_by l (lined l)).answer.finish.finished < count l → ⊥
  unfolding loaded_by lined place_of
  lined-last a = omega arith

  module _ (q : (seeded l).ready ≡ true) where
    abbrev m : ℕ
    m = point_count (rest_of l).points

    abbrev R : RunOutcome
    R = run_of (rest_of l)

    Q : RestAnswers l e (seed-rows l e) q (as_run (loaded_by l (swept l)))
    Q = load.rest-answers l e q

    seed-most : (rest_of l).counts.vertices ≤ (seeded l).answered
    unfolding rest_of
    seed-most = rest.seed-most l e (seed-rows l e) q

    rest-named : (F : ℕ → Type 0) → ((j : ℕ) → j < m → F (fate_word R.answers j) → vertex_word R.answers j < (rest_of l).counts.vertices + m)
        → (i : ℕ) → i < count l → F (fate_word (loaded_by l (swept l)).answers i) → vertex_word (loaded_by l (swept l)).answers i < count l
    rest-named F u i a t = go (dec_lt i (seeded l).answered)
      where
        k : ℕ
        k = (seeded l).answered

        go : Dec (i < (seeded l).answered) → vertex_word (loaded_by l (swept l)).answers i < count l
        go (yes b) = seed-named (loaded_by l (swept l)) (load.swept-answers l e) (let x = rest.seed-most l e (seed-rows l e) q in let y = (rest.keeps l e).most in omega arith) i b
        go (no b) =
            let n = load.rest-count l e q in
            let s = seed-most in
            let j = i - (seeded l).answered in
            let w : (seeded l).answered + (i - (seeded l).answered) ≡ i = omega arith in
            let f = Q.word j 0 (omega arith) (omega arith) in
            let v = Q.word j 1 (omega arith) (omega arith) in
            let x = u j (omega arith) (subst F (ap (λ (y : ℕ). fate_word (loaded_by l (swept l)).answers y) (sym w) ∙ f) t) in
            let y = ap (λ (y : ℕ). vertex_word (loaded_by l (swept l)).answers y) w in
            omega arith

    accepted : run_checked (rest_of l) ≡ Ok tt
    accepted = rest.rest-accepted l e (seed-rows l e) q

    swept-last : place_of (count l) (loaded_by l (swept l)).answer.finish.finished < count l
        → (0 < (loaded_by l (swept l)).answer.finish.counts.vertices) × ((loaded_by l (swept l)).answer.finish.counts.vertices ≤ count l)
    unfolding loaded_by swept
    swept-last a =
        let c = run_completes (rest_of l) in
        let n = load.rest-count l e q in
        let r = run_is (rest_of l) accepted in
        let b = place-shift (seeded l).answered (count l) m c.place c.mesh n a in
        let x = last-used (rest_of l) accepted (subst (λ (R : RunOutcome). place_of m R.answer.finished < m) (sym r) b) in
        let y = ap (λ (R : RunOutcome). R.answer.counts.vertices) r in
        let s = seed-most in
        let u = x.0 in let w = x.1 in
        (omega arith, omega arith)

    swept-named : Named (loaded_by l (swept l))
    swept-named = record {
      added = rest-named (λ f. T (is_from 1 1 f)) (λ j a t. added-used (rest_of l) accepted j a t);
      inserted = rest-named (λ f. T (is_from 6 9 f)) (λ j a t. inserted-used (rest_of l) accepted j a t);
      last = swept-last;
    }

  named : Named (bulk_load_of l)
  named = go (end_of l e)
    where
      go : End l e → Named (bulk_load_of l)
      go (at-flip f q) = subst Named (sym (load_is l e q)) (stopped_named f)
      go (at-start r q) = subst Named (sym (load_is l e q)) (swept-named r)
      go (at-mesh r f m q) = subst Named (sym (load_is l e q)) (taken-named (loaded_by l (ended l)) (load.ended-answers l e) r f ended-last)
      go (at-line r f m q) = subst Named (sym (load_is l e q)) (taken-named (loaded_by l (lined l)) (load.lined-answers l e) r f lined-last)

  answers-long : length (bulk_load_of l).answers ≡ length l.answers
  unfolding bulk_load_of bulk_load_outcome loaded_by
  answers-long = rw e (length_from (length l.answers) _)

  rooms : (low high : ℕ) → ((i : ℕ) → i < count l → T (is_from low high (fate_word (bulk_load_of l).answers i)) → vertex_word (bulk_load_of l).answers i < count l)
      → FatesRoom low high (length l.heights) (length l.point_heights_of) (bulk_load_of l).answers (count l)
  rooms low high u i a =
      let A = rest.accepted l e in
      let n = answers-long in
      let b = A.answers-room in let c = A.heights-room in let d = A.point-heights in let m = A.most in
      record {
        answer = omega arith;
        height = omega arith;
        vertex = λ t. let x = u i a t in omega arith;
        small = λ t. let x = u i a t in omega arith;
      }

  -- WHAT THE STORE OF HEIGHTS ASKS
  pub load_store : StoreReady (count l) (length l.heights) (length l.point_heights_of) (bulk_load_of l).answers (bulk_load_of l).answer.finish
  load_store =
      let A = rest.accepted l e in
      record {
        few = λ _. A.most;
        points = λ _. A.point-heights;
        added = λ _. rooms 1 1 named.added;
        inserted = λ _. rooms 6 9 named.inserted;
        last = λ _ a. let u = named.last a in let h = A.heights-room in let x = u.1 in (u.0, omega arith);
      }
