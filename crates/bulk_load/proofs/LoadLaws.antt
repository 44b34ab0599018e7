-- THE THEOREM of a bulk load, for every list of points: a finished mesh meets demand 3 with an empty seed and carries the points' heights,
-- and a line of points has its vertices in order. Assumes nothing.
use Rattle.std.specs.Prelude.{Bool, cond, List, ◌⊎◌, ℕ, ◌+◌, ◌-◌, ◌*◌, ◌<◌, ◌≤◌, T, ltb, eqb, length, Ok, Err}
use Rattle.std.proofs.Math.Bool.{true, false}
use Rattle.std.proofs.lemmas.Bool.{false≢true}
use Rattle.std.proofs.Common.{inl, inr, ◌∙◌, subst}
use Rattle.std.proofs.Math.Path.{◌≡◌, refl, sym, ap, subst⁻¹}
use Rattle.std.proofs.Math.Decide.{dec_lt}
use native.Mathlib.Omega.{arith}
use borrow.Author.Tests.{lt-ltb, le-ltb}
use Rattle.convexity.specs.Convexity.{convexity}
use Rattle.corner.specs.Untouched.{rows_back, positions-back}
use Rattle.dcel.specs.MeshRows.{links_in, places_in, mesh_rows_from}
use Rattle.dcel.specs.Rows.{position_of, row_from_of}
use Rattle.finish.specs.declared.FinishAnswer.{FinishAnswer}
use Rattle.finish.specs.Finished.{Finished}
use Rattle.finish.specs.declared.Totals.{Totals}
use Rattle.finish.specs.Finish.{Finishing, finish_mesh, totals_from, finished_from}
use Rattle.line.specs.GrowUntouched.{Fits}
use Rattle.heights.specs.Heights.{height_of}
use Rattle.line.specs.GrowLaws as phase
use Rattle.line.specs.GrowLaws.{Phase}
use Rattle.math.specs.declared.Point.{Point}
use Rattle.mesh.specs.declared.Counts.{Counts}
use Rattle.mesh.specs.Mesh.{Links}
use Rattle.mesh_check.specs.Checked.{Checked}
use Rattle.mesh_check.specs.declared.Refusal.{Refusal}
use Rattle.mesh_check.specs.Check.{point_count}
use Rattle.sums.specs.Bit.{bit}
use Rattle.sums.proofs.BoundedLaws.{count-le}
use Rattle.surface.specs.CarriedHeights.{Numbered}
use Rattle.surface.proofs.CarriedHeightsLaws.{numbered, carried-by}
use Rattle.surface.specs.StoredHeights.{is_made, place_of, answered_heights}
use Rattle.surface.proofs.StoredLaws.{heights-end}
use Rattle.surface.specs.Surface.{surface_run_lent, surface_ran}
use Rattle.sweep.specs.Demand3.{fate_of, vertex_of, is_vertex, before_closing, Demand3From}
use Rattle.sweep.specs.Run.{RunOutcome, run_completes, run_of}
use Rattle.sweep.proofs.RunLaws.{run_is, run-accepted}
use Rattle.bulk_load.specs.BulkLoad.{BulkLoadLent, BulkLoadOutcome, Loading, bulk_load_checked, bulk_load_outcome, bulk_load_of, count, counts, links, positions, seeded, rest_of, swept, ended, lined, stopped, loading_of, no_counts, loaded_with, loaded_by}
use Rattle.bulk_load.specs.Demand3.{empty_seed, as_run, before_load_closes, LineOf, LoadHeights, LineLoaded, LoadFinished, BulkLoaded}
use Rattle.bulk_load.proofs.EndedLaws.{all-taken, grown-most, ended-demand-3}
use Rattle.bulk_load.proofs.LoadAnswers.{rows-again, seed-word, swept-word, rest-word}
use Rattle.bulk_load.proofs.PastLaws.{seed-rows}
use Rattle.bulk_load.proofs.RestFacts as rest
use Rattle.bulk_load.specs.Rest.{SeedRows}
use Rattle.bulk_load.proofs.SweptLaws.{RestAnswers}
use Rattle.bulk_load.proofs.SweptLaws.{grown, SeedAnswers, seed-fate, seed-not-entered, seed-added, seed-vertices, seed-vertex, seed-used, seed-here, swept-demand-3}

counts-are : (C : Counts) {a b d : ℕ} → C.vertices ≡ a → C.edges ≡ b → C.faces ≡ d → C ≡ record { vertices = a; edges = b; faces = d }
counts-are C x y z = rw (← x, ← y, ← z) refl

-- an answer with no refusal number: no flip was refused
pub finished-totals : (place : ℕ) (z : Finishing) (t : Totals) → finished_from place z ≡ Ok t
    → (z.full ≡ false) × (t ≡ totals_from z)
unfolding finished_from
finished-totals place z t e = go z.full refl
  where
    go : (b : Bool) → z.full ≡ b → (z.full ≡ false) × (t ≡ totals_from z)
    go true f =
        let x : Err (record { number = 9; place = place }) ≡ Ok t = sym (rw f refl) ∙ e in
        absurd (let w : ◌≡◌ {A = ℕ} 0 1 = cc in omega arith)
    go false f = let x : Ok (totals_from z) ≡ Ok t = sym (rw f refl) ∙ e in (f, cc)

pub finished_as : (place place' : ℕ) (z : Finishing) (t : Totals) → finished_from place z ≡ Ok t
    → finished_from place' z ≡ Ok t
unfolding finished_from totals_from
finished_as place place' z t e = let x = finished-totals place z t e in rw x.0 (ap Ok (sym x.1))

module _ (l : BulkLoadLent) (e : bulk_load_checked l ≡ Ok tt) where
  abbrev S : SeedRows l
  S = seed-rows l e

  -- ---- where the list comes to
  pub data End : Type 0 where
    at-flip : (seeded l).growing.mesh.full ≡ true → loading_of l ≡ stopped l → End
    at-start : (seeded l).ready ≡ true → loading_of l ≡ swept l → End
    at-mesh : (seeded l).ready ≡ false → (seeded l).growing.mesh.full ≡ false → 1 < (counts l).faces → loading_of l ≡ ended l → End
    at-line : (seeded l).ready ≡ false → (seeded l).growing.mesh.full ≡ false → (counts l).faces ≤ 1 → loading_of l ≡ lined l → End

  pub end_of : End
  unfolding loading_of
  end_of = go (seeded l).growing.mesh.full (seeded l).ready (dec_lt 1 (counts l).faces) refl refl
    where
      go : (a b : Bool) → Dec (1 < (counts l).faces) → (seeded l).growing.mesh.full ≡ a → (seeded l).ready ≡ b → End
      go true b d f r = at-flip f (rw f refl)
      go false true d f r = at-start r (rw (f, r) refl)
      go false false (yes d) f r = at-mesh r f d (rw (f, r, lt-ltb 1 (counts l).faces d) refl)
      go false false (no d) f r = at-line r f (omega arith) (rw (f, r, le-ltb 1 (counts l).faces (omega arith)) refl)

  pub load_is : {w : Loading} → loading_of l ≡ w → bulk_load_of l ≡ loaded_by l w
  unfolding bulk_load_of bulk_load_outcome
  load_is q = rw e (ap (loaded_by l) q)

  -- ---- the seed's answers
  pub swept-answers : SeedAnswers l e (as_run (loaded_by l (swept l)))
  unfolding loaded_by swept
  swept-answers = record { word = λ i w a b. swept-word l e i w a b }

  rest-mesh : (L : Links) (p : ℕ → Point) → mesh_rows_from l.mesh L p ≡ mesh_rows_from (rest_of l).mesh L p
  unfolding rest_of
  rest-mesh L p = sym (rows-again l.mesh (links l) L (positions l) p)

  pub rest-count : (seeded l).ready ≡ true → (seeded l).answered + point_count (rest_of l).points ≡ count l
  unfolding rest_of
  rest-count r = rest.rest-count l e S r

  pub rest-answers : (r : (seeded l).ready ≡ true) → RestAnswers l e S r (as_run (loaded_by l (swept l)))
  unfolding loaded_by swept
  rest-answers r =
      let q = run_is (rest_of l) (rest.rest-accepted l e S r) in
      let n = rest-count r in
      record {
        word = λ j w a b. rest-word l e S r j w (omega arith) b;
        mesh = rest-mesh (run_completes (rest_of l)).mesh.links (run_completes (rest_of l)).positions ∙ ap (λ (R : RunOutcome). R.mesh) (sym q);
        counts = ap (λ (R : RunOutcome). R.answer.counts) (sym q);
      }

  pub ended-answers : SeedAnswers l e (as_run (loaded_by l (ended l)))
  unfolding loaded_by ended
  ended-answers = record { word = λ i w a b. seed-word l e i w a b }

  pub stopped-answers : SeedAnswers l e (as_run (loaded_by l (stopped l)))
  unfolding loaded_by stopped
  stopped-answers = record { word = λ i w a b. seed-word l e i w a b }

  pub lined-answers : SeedAnswers l e (as_run (loaded_by l (lined l)))
  unfolding loaded_by lined
  lined-answers = record { word = λ i w a b. seed-word l e i w a b }

  -- ---- demand 3
  swept-finished : (r : (seeded l).ready ≡ true) (t : Totals) → (loaded_by l (swept l)).answer.finish.finished ≡ Ok t
      → Demand3From (empty_seed l) (before_load_closes l) (as_run (loaded_by l (swept l))) t
  unfolding before_load_closes loaded_by swept
  swept-finished r t z =
      let q = run_is (rest_of l) (rest.rest-accepted l e S r) in
      let c = run_completes (rest_of l) in
      let f : (run_of (rest_of l)).answer.finished ≡ Ok t = ap (λ (R : RunOutcome). R.answer.finished) q
      ∙ finished_as ((seeded l).answered + c.place) c.place c.mesh t z in
      rw r (swept-demand-3 l e S r (as_run (loaded_by l (swept l))) swept-answers (rest-answers r) t (run-accepted (rest_of l) t f).0)

  ended-finished : (seeded l).ready ≡ false → (seeded l).growing.mesh.full ≡ false → 1 < (counts l).faces
      → (t : Totals) → (loaded_by l (ended l)).answer.finish.finished ≡ Ok t
      → Demand3From (empty_seed l) (before_load_closes l) (as_run (loaded_by l (ended l))) t
  unfolding before_load_closes loaded_by ended totals_from
  ended-finished r f m t z =
      let x = finished-totals (count l) (finish_mesh (length l.pending) (counts l) (positions l) (links l)) t z in
      rw r (ended-demand-3 l e S r f m (as_run (loaded_by l (ended l))) ended-answers refl refl x.0 t (ap (λ (u : Totals). u.closingflips) x.1))

  -- ---- the heights: those that the answers store
  module _ (w : Loading) (t : Totals) (q : (loaded_by l w).answer.finish.finished ≡ Ok t)
      (D : Numbered (empty_seed l) (as_run (loaded_by l w))) where
    heights-are : (loaded_by l w).heights
        ≡ row_from_of (length l.heights) (answered_heights (loaded_by l w).answers (height_of l.point_heights_of) (height_of l.heights) (count l))
    unfolding loaded_by is_made place_of
    heights-are =
        ap (row_from_of (length l.heights))
        (heights-end w.answer.finish (loaded_by l w).answers (height_of l.point_heights_of) (height_of l.heights) (count l) (ap is_made q) (ap (place_of (count l)) q))

    most : (loaded_by l w).answer.finish.counts.vertices ≤ length l.heights
    most =
        let n = D.number in
        let c = count-le (count l) (λ i. is_vertex (fate_of (as_run (loaded_by l w)) i)) in
        let h = (rest.accepted l e).heights-room in
        omega arith

    carried : LoadHeights l (loaded_by l w)
    carried = carried-by (surface_run_lent (empty_seed l) l.heights l.point_heights_of) (surface_ran (as_run (loaded_by l w)) (loaded_by l w).heights) D heights-are most

  -- ---- a line
  module _ (r : (seeded l).ready ≡ false) (f : (seeded l).growing.mesh.full ≡ false) (m : (counts l).faces ≤ 1) where
    F : Fits (counts l)
    F = S.fits f

    fit : (counts l).vertices ≤ count l
    fit = grown-most l e S r f

    abbrev B : BulkLoadOutcome
    B = loaded_by l (lined l)

    line-links : links_in B.mesh ≡ links l
    unfolding loaded_by lined mesh_rows_from
    line-links =
        let z = (rest.accepted l e).sizes in
        let a = z.outs in let b = z.halves in let c = z.faces in
        let x = F.faces in let y = F.edges in let n = fit in
        rows_back (record { outs = omega arith; halves = omega arith; faces = omega arith }) S.links-past

    line-places : places_in B.mesh ≡ positions l
    unfolding loaded_by lined mesh_rows_from
    line-places =
        let z = (rest.accepted l e).sizes.positions in
        let n = fit in
        positions-back l.mesh.positions (positions l) (counts l).vertices (omega arith) S.places-past

    line-counts : B.answer.finish.counts ≡ counts l
    unfolding loaded_by lined
    line-counts = refl

    order : LineOf (counts l) (links l) (positions l)
    order = go (rest.keeps l e).phase
      where
        go : Phase (seeded l).growing → LineOf (counts l) (links l) (positions l)
        go (phase.none a b) = LineOf.none (let x = F.edges in counts-are (counts l) {b = 0} a (omega arith) b)
        go (phase.one a x) = let z = S.one-zero a in LineOf.one a z.0 z.1
        go (phase.line X) = LineOf.line X
        go (phase.mesh G N k) = absurd (omega arith)

    line-used : (i : ℕ) → i < count l → vertex_of (as_run B) i < B.answer.finish.counts.vertices
    line-used i a = let k = all-taken l e S r f in let u = seed-used l e (as_run B) lined-answers i (omega arith) in rw line-counts u

    line-number : B.answer.finish.counts.vertices ≡ grown l e (count l)
    line-number =
        let v = (rest.keeps l e).vertices in
        let b = ap bit f in
        let n = ap (λ (x : ℕ). grown l e x) (all-taken l e S r f) in
        let w = ap (λ (C : Counts). C.vertices) line-counts in
        omega arith

    line-numbered : Numbered (empty_seed l) (as_run B)
    line-numbered =
        let A = lined-answers in
        let k = all-taken l e S r f in
        record {
          vertex = λ i a x. let y = seed-vertex l e (as_run B) A i (omega arith) x in omega arith;
          entered = λ i a x. absurd (subst T (seed-not-entered l e (as_run B) A i (omega arith)) x);
          number = let c = seed-vertices l e (as_run B) A (count l) (omega arith) in let n = line-number in omega arith;
          met = λ i a x. line-used i a;
        }

    line-accepted : B.answer.finish.finished ≡ Ok (record { faces = 0; convexflips = 0; closingflips = 0 })
    unfolding loaded_by lined
    line-accepted = refl

    lined-loaded : LineLoaded l B
    lined-loaded =
        let A = lined-answers in
        let k = all-taken l e S r f in
        record {
          order = rw (line-counts, line-links, line-places) order;
          fates = λ i a. seed-fate l e (as_run B) A i (omega arith);
          vertex = λ i a. seed-vertex l e (as_run B) A i (omega arith);
          used = line-used;
          place = λ i a. ap (λ (p : ℕ → Point). p (vertex_of (as_run B) i)) line-places ∙ seed-here l e (as_run B) A i (omega arith);
          number = let c = seed-added l e (as_run B) A (count l) (omega arith) in let n = line-number in omega arith;
          heights = carried (lined l) _ line-accepted line-numbered;
          links-past = rw (line-counts, line-links) S.links-past;
          places-past = λ u a. ap (λ (p : ℕ → Point). p u) line-places
              ∙ S.places-past u (let w = ap (λ (C : Counts). C.vertices) line-counts in omega arith);
        }

-- ---- THE THEOREM
pub refused-not : (l : BulkLoadLent) {x : Refusal} → bulk_load_checked l ≡ Err x
    → ((bulk_load_of l).answer.finish.finished ≡ Err x) × ((bulk_load_of l).answer.line ≡ false)
unfolding bulk_load_of bulk_load_outcome
refused-not l e = rw e (refl, refl)

-- refused before anything is done
pub refused-is : (l : BulkLoadLent) {x : Refusal} → bulk_load_checked l ≡ Err x
    → loaded_with (record { finish = record { counts = no_counts; finished = Err x }; line = false })
    l.mesh l.heights l.ring l.pending l.answers ≡ bulk_load_of l
unfolding bulk_load_of bulk_load_outcome
refused-is l e = rw e refl

-- the marks of the four ends
module _ (l : BulkLoadLent) where
  stopped-not : (t : Totals) → (loaded_by l (stopped l)).answer.finish.finished ≡ Ok t → ⊥
  unfolding loaded_by stopped
  stopped-not t x = let w : ◌≡◌ {A = ℕ} 0 1 = cc in omega arith

  pub stopped-mark : (loaded_by l (stopped l)).answer.line ≡ false
  unfolding loaded_by stopped
  stopped-mark = refl

  pub swept-mark : (loaded_by l (swept l)).answer.line ≡ false
  unfolding loaded_by swept
  swept-mark = refl

  pub ended-mark : (loaded_by l (ended l)).answer.line ≡ false
  unfolding loaded_by ended
  ended-mark = refl

  pub lined-mark : (loaded_by l (lined l)).answer.line ≡ true
  unfolding loaded_by lined
  lined-mark = refl

  -- what is to be shown of each end
  abbrev Means : BulkLoadOutcome → Type 0
  Means r = ((t : Totals) → r.answer.finish.finished ≡ Ok t → r.answer.line ≡ false → LoadFinished l r t)
      × (r.answer.line ≡ true → LineLoaded l r)

  means-by : (e : bulk_load_checked l ≡ Ok tt) → End l e → Means (bulk_load_of l)
  means-by e (at-flip f q) = subst⁻¹ Means (load_is l e q)
      ((λ t x n. absurd (stopped-not t x)), λ y. absurd (false≢true (sym stopped-mark ∙ y)))
  means-by e (at-start r q) = subst⁻¹ Means (load_is l e q)
      ((λ t x n. let D = swept-finished l e r t x in (D, carried l e (swept l) t x (numbered D))), λ y. absurd (false≢true (sym swept-mark ∙ y)))
  means-by e (at-mesh r f m q) = subst⁻¹ Means (load_is l e q)
      ((λ t x n. let D = ended-finished l e r f m t x in (D, carried l e (ended l) t x (numbered D))), λ y. absurd (false≢true (sym ended-mark ∙ y)))
  means-by e (at-line r f m q) = subst⁻¹ Means (load_is l e q)
      ((λ t x n. absurd (false≢true (sym n ∙ lined-mark))), λ y. lined-loaded l e r f m)

  means : Means (bulk_load_of l)
  means = go (bulk_load_checked l) refl
    where
      go : (c : Checked) → bulk_load_checked l ≡ c → Means (bulk_load_of l)
      go (Ok tt) e = means-by e (end_of l e)
      go (Err x) e =
          let R = refused-not l e in (
            (λ t y n. absurd (let z : Err x ≡ Ok t = sym R.0 ∙ y in let w : ◌≡◌ {A = ℕ} 0 1 = cc in omega arith)),
            λ y. absurd (false≢true (sym R.1 ∙ y)),
          )

  pub bulk-loaded : (r : BulkLoadOutcome) → r ≡ bulk_load_of l → BulkLoaded l r
  bulk-loaded r q =
      let M = subst⁻¹ Means q means in
      record { is = q; finished = λ t x n. M.0 t x n; lined = λ y. M.1 y }
