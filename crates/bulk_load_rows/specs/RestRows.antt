-- The sweep of the points that are left, on the rows as the seed left them: it is the run of the definition, whatever the pending row held.
-- Assumes nothing.
use Rattle.std.specs.Prelude.{Bool, true, false, cond, ◌⊎◌, ◌≡◌, ℤ, length, replicate, take, drop, Ok, Err}
use mathlib.Core.List.{List, [], ◌++◌, append-nil}
use Rattle.std.proofs.Common.{inl, inr, ◌∙◌, subst, arith, length-drop, length-append, drop_of_length-le, take_all, get_or-drop, ext_get_or}
use Rattle.std.proofs.Math.Path.{refl, sym, ap, fun_ext}
use Prim.Native.Nat.{ℕ, ◌+◌, ◌-◌, ◌*◌, ◌<◌, ◌≤◌, ◌^◌}
use Rattle.std.proofs.Math.Decide.{dec_lt}
use Rattle.std.proofs.Math.ListN.{get_or}
use Rattle.std.proofs.Math.Seq.{length-take-le, get_or-take, get_or-append-add}
use Rattle.std.proofs.lemmas.List.{take-append-le}
use Rattle.angle.specs.declared.Point2.{Point2}
use Rattle.corner.specs.Corner.{Extended}
use Rattle.dcel.specs.MeshRows.{MeshRows, places_in, mesh_rows_from}
use Rattle.hull_center.specs.HullCenter.{hull_center}
use Rattle.dcel.specs.Rows.{position_of, row_of, row_from_of}
use Rattle.finish.specs.declared.FinishAnswer.{FinishAnswer}
use Rattle.finish.specs.Finished.{Finished}
use Rattle.finish.specs.declared.Totals.{Totals}
use Rattle.finish.specs.Finish.{Finishing, totals_from, finished_from}
use Rattle.mesh.specs.declared.Counts.{Counts}
use Rattle.mesh_check.specs.Checked.{Checked}
use Rattle.mesh_check.specs.declared.Refusal.{Refusal}
use Rattle.mesh_check.specs.Check.{point_count}
use Rattle.mesh_check.specs.CheckLaws.{NumberedTo}
use Rattle.ring_rows.specs.RingRows.{RingRows, ring_zeros}
use Rattle.skipped.specs.Fill.{Filling, fill_after, insert_on, insert_word, Completing}
use Rattle.sweep.specs.Demand3.{Full}
use Rattle.sweep.specs.Run.{Sweeping, is_skipped, complete_after, answers_after, completed_answers, RunLent, RunOutcome, run_lent, ran_with, answer_words, run_checked, sweep_of, steps_of, skipped_of, run_completes, passed_of, fill_of, inserted_word, run_answers, run_outcome, run_of}
use Rattle.sweep.specs.Step.{Stepping}
use Rattle.sweep.proofs.RunLaws.{run-refused}
use Rattle.bulk_load_rows.specs.LoadRows.{placed_after, answer_after, PlaceFits, rest_lent, RestReady, RestLeaves}

-- ---- a run knows the length of its pending row alone
module _ (C : Counts) (m : MeshRows) (ring : RingRows) (row row' : List ℕ) (w : List ℕ) (c : Point2) (points : List ℤ)
    (same : length row ≡ length row') where
  pub run-pending : run_checked (run_lent C m ring row w c points) ≡ run_checked (run_lent C m ring row' w c points)
  unfolding run_checked
  run-pending = rw same refl

  abbrev l : RunLent
  l = run_lent C m ring row w c points

  abbrev l' : RunLent
  l' = run_lent C m ring row' w c points

  abbrev n : ℕ
  n = point_count points

  steps-same : steps_of l ≡ steps_of l'
  steps-same = fun_ext (λ i. rw same refl)

  sweep-same : sweep_of l n ≡ sweep_of l' n
  sweep-same = rw same refl

  skipped-same : skipped_of l ≡ skipped_of l'
  skipped-same = fun_ext (λ i. ap (λ (f : ℕ → Stepping). is_skipped (f i).fate) steps-same)

  completes-same : run_completes l ≡ run_completes l'
  completes-same =
      ap (λ (f : ℕ → Bool). complete_after (length row) (sweep_of l n) f (position_of points) n) skipped-same
      ∙ ap (λ (s : Sweeping). complete_after (length row) s (skipped_of l') (position_of points) n) sweep-same
      ∙ ap (λ (k : ℕ). complete_after k (sweep_of l' n) (skipped_of l') (position_of points) n) same

  passed-same : passed_of l ≡ passed_of l'
  passed-same = rw same refl

  fill-same : (i : ℕ) → fill_of l i ≡ fill_of l' i
  fill-same i =
      ap (λ (f : ℕ → Bool). fill_after (length row) (passed_of l).counts (passed_of l).links (sweep_of l n).positions f (position_of points) i) skipped-same
      ∙ ap (λ (v : Extended). fill_after (length row) v.counts v.links (sweep_of l n).positions (skipped_of l') (position_of points) i) passed-same
      ∙ ap (λ (s : Sweeping). fill_after (length row) (passed_of l').counts (passed_of l').links s.positions (skipped_of l') (position_of points) i) sweep-same
      ∙ ap (λ (k : ℕ). fill_after k (passed_of l').counts (passed_of l').links (sweep_of l' n).positions (skipped_of l') (position_of points) i) same

  word_same : inserted_word l ≡ inserted_word l'
  word_same = fun_ext (λ i. ap (λ (s : Filling). λ k. insert_word s.counts (insert_on (length row) s (position_of points i)) k) (fill-same i)
      ∙ ap (λ (r : ℕ). λ k. insert_word (fill_of l' i).counts (insert_on r (fill_of l' i) (position_of points i)) k) same)

  answers-same : run_answers l ≡ run_answers l'
  answers-same =
      ap (λ (f : ℕ → ℕ → ℕ). completed_answers f (skipped_of l) (run_completes l).inserted n (answers_after (steps_of l) (sweep_of l n).answered n (row_of w))) word_same
      ∙ ap (λ (f : ℕ → Bool). completed_answers (inserted_word l') f (run_completes l).inserted n (answers_after (steps_of l) (sweep_of l n).answered n (row_of w))) skipped-same
      ∙ ap (λ (z : Completing). completed_answers (inserted_word l') (skipped_of l') z.inserted n (answers_after (steps_of l) (sweep_of l n).answered n (row_of w))) completes-same
      ∙ ap (λ (f : ℕ → Stepping). completed_answers (inserted_word l') (skipped_of l') (run_completes l').inserted n (answers_after f (sweep_of l n).answered n (row_of w))) steps-same
      ∙ ap (λ (s : Sweeping). completed_answers (inserted_word l') (skipped_of l') (run_completes l').inserted n (answers_after (steps_of l') s.answered n (row_of w))) sweep-same

  -- what is made of a run, its answers and the length of its pending row
  abbrev made : Completing → (ℕ → ℕ) → ℕ → RunOutcome
  made z f k =
      ran_with (record { counts = z.mesh.counts; finished = finished_from z.place z.mesh })
      (mesh_rows_from m z.mesh.links z.positions) (ring_zeros ring) (replicate k 0) (row_from_of (length w) f)

  outcome-pending : run_outcome l (Ok tt) ≡ run_outcome l' (Ok tt)
  unfolding run_outcome
  outcome-pending =
      ap (λ (z : Completing). made z (run_answers l) (length row)) completes-same
      ∙ ap (λ (f : ℕ → ℕ). made (run_completes l') f (length row)) answers-same
      ∙ ap (made (run_completes l') (run_answers l')) same

  pub ran-pending : run_checked (run_lent C m ring row w c points) ≡ Ok tt
      → run_of (run_lent C m ring row w c points) ≡ run_of (run_lent C m ring row' w c points)
  unfolding run_of
  ran-pending e = rw (sym run-pending ∙ e, e) outcome-pending

-- ---- the place of a refusal
pub place-fits : (k : ℕ) (l : RunLent) → run_checked l ≡ Ok tt → k + point_count l.points ≤ 1000000 → PlaceFits k (run_of l).answer
place-fits k l e m x z = go (run-refused l x z)
  where
    go : (NumberedTo 7 (Err x) × (run_checked l ≡ Err x) × (run_of l
        ≡ ran_with (record { counts = l.counts; finished = Err x }) l.mesh l.ring l.pending l.answers))
        ⊎ ((x.number ≡ 9) × Full l (run_of l) x.place) → k + x.place < 2 ^ 32
    go (inl (a, b, c)) = absurd (let y : (Ok tt) ≡ Err x = sym e ∙ b in let w : ◌≡◌ {A = ℕ} 0 1 = cc in omega arith)
    go (inr (a, F)) = let w = F.within in omega arith

-- by its cases
pub placed-accepted : (k : ℕ) (r : FinishAnswer) (t : Totals) → r.finished ≡ Ok t
    → ◌≡◌ {A = FinishAnswer} (record { counts = r.counts; finished = Ok t }) (answer_after k r)
unfolding placed_after
placed-accepted k r t e = ap (λ (f : Finished). record { counts = r.counts; finished = f }) (sym (ap (placed_after k) e))

pub placed-refused : (k : ℕ) (r : FinishAnswer) (x : Refusal) → r.finished ≡ Err x
    → ◌≡◌ {A = FinishAnswer} (record { counts = r.counts; finished = Err (record { number = x.number; place = k + x.place }) }) (answer_after k r)
unfolding placed_after
placed-refused k r x e = ap (λ (f : Finished). record { counts = r.counts; finished = f }) (sym (ap (placed_after k) e))

pub placed-from : (k place : ℕ) (z : Finishing) → placed_after k (finished_from place z) ≡ finished_from (k + place) z
unfolding placed_after finished_from
placed-from k place z = go z.full
  where
    go : (b : Bool)
        → placed_after k (cond b (Err (record { number = 9; place = place })) (Ok (totals_from z)))
        ≡ cond b (Err (record { number = 9; place = k + place })) (Ok (totals_from z))
    go true = refl
    go false = refl

-- ---- rows by their entries
pub drop-same : (k : ℕ) (v w : List ℕ) → length v ≡ length w → ((x : ℕ) → k ≤ x → row_of v x ≡ row_of w x) → drop k v ≡ drop k w
unfolding row_of
drop-same k v w s e =
    let a = length-drop k v in
    let b = length-drop k w in
    ext_get_or 0 (drop k v) (drop k w) (omega arith)
    (λ i l. get_or-drop k v i 0 ∙ e (k + i) (omega arith) ∙ sym (get_or-drop k w i 0))

-- the first k entries of one row, and then another
module _ (k : ℕ) (v u : List ℕ) (l : k ≤ length v) where
  pub joined_length : length (take k v ++ u) ≡ k + length u
  joined_length = let a = length-append (take k v) u in let b = length-take-le k v l in omega arith

  pub joined-first : (x : ℕ) → x < k → row_of (take k v ++ u) x ≡ row_of v x
  unfolding row_of
  joined-first x a =
      let b = length-take-le k v l in
      sym (get_or-take k (take k v ++ u) x 0 a)
      ∙ ap (λ (r : List ℕ). get_or r x 0) (take-append-le k (take k v) u (omega arith)) ∙ get_or-take k (take k v) x 0 a ∙ get_or-take k v x 0 a

  pub joined-last : (x : ℕ) → row_of (take k v ++ u) (k + x) ≡ row_of u x
  unfolding row_of
  joined-last x =
      let b = length-take-le k v l in
      ap (λ (n : ℕ). get_or (take k v ++ u) (n + x) 0) (sym b) ∙ get_or-append-add (take k v) u x 0

-- ---- the rest of a row, as it is lent from a place on, and the row after it has come back
abbrev pub part : {A : Type 0} → ℕ → List A → List A
part k xs = take (length xs - k) (drop k xs)

part-is : {A : Type 0} (k : ℕ) (xs : List A) → part k xs ≡ drop k xs
part-is k xs = let d = length-drop k xs in take_all (length xs - k) (drop k xs) (omega arith)

drop_all : {A : Type 0} (k : ℕ) (xs : List A) → drop (length xs - k) (drop k xs) ≡ []
drop_all k xs = let d = length-drop k xs in drop_of_length-le (drop k xs) {i = length xs - k} (omega arith)

pub part-back : {A : Type 0} (k : ℕ) (xs ys : List A) → take k xs ++ (ys ++ drop (length xs - k) (drop k xs)) ≡ take k xs ++ ys
part-back {A} k xs ys = ap (λ (zs : List A). take k xs ++ (ys ++ zs)) (drop_all k xs) ∙ ap (λ (zs : List A). take k xs ++ zs) (append-nil ys)

module _ {C : Counts} {m : MeshRows} {ring : RingRows} {row w : List ℕ} {points : List ℤ} {k : ℕ} (R : RestReady C m ring row w points k)
    {c : Point2} (q : c ≡ hull_center C (places_in m)) where
  -- the run as it is called
  abbrev called : RunLent
  called = run_lent C m ring row (part (answer_words * k) w) c (part (2 * k) points)

  called_is : called ≡ rest_lent C m ring row w points k
  called_is = rw (part-is (answer_words * k) w, part-is (2 * k) points, q) refl

  pub rest-requires : run_checked called ≡ Ok tt
  rest-requires = ap run_checked called_is ∙ R.checked

  module _ {m' : MeshRows} {ring' : RingRows} {row' ys : List ℕ} {x : FinishAnswer} (E : ran_with x m' ring' row' ys ≡ run_of called) where
    ran-is : ran_with x m' ring' row' ys ≡ run_of (rest_lent C m ring row w points k)
    ran-is = E ∙ ap run_of called_is

    pub rest-fits : PlaceFits k x
    rest-fits =
        subst (λ (r : RunOutcome). PlaceFits k r.answer) (sym ran-is)
        (place-fits k (rest_lent C m ring row w points k) R.checked R.most)

    pub rest-done : {r : FinishAnswer} → r ≡ answer_after k x
        → RestLeaves k (run_of (rest_lent C m ring row w points k)) w m' ring' row'
        (take (answer_words * k) w ++ (ys ++ drop (length w - answer_words * k) (drop (answer_words * k) w))) r
    rest-done e = record {
      answer = e ∙ ap (λ (o : RunOutcome). answer_after k o.answer) ran-is;
      mesh = ap (λ (o : RunOutcome). o.mesh) ran-is;
      ring-is = ap (λ (o : RunOutcome). o.ring) ran-is;
      pending-is = ap (λ (o : RunOutcome). o.pending) ran-is;
      answers-are = part-back (answer_words * k) w ys ∙ ap (λ (o : RunOutcome). take (answer_words * k) w ++ o.answers) ran-is;
    }
