-- The call `run` with heights beside that on the mesh alone, as `SurfaceLaws` has it of the others: its table, its outcome, and the row
-- of heights that it leaves, as the code makes it from the answers (`run-heights`) and vertex by vertex (`CarriedHeights`). Assumes
-- nothing.
use Rattle.std.specs.Prelude.{true, false, List, ◌≡◌, ℕ, ◌+◌, ◌*◌, ◌<◌, ◌≤◌, T, ltb, ℤ, length, Ok, Err}
use Rattle.std.proofs.lemmas.Bool.{false≢true}
use Rattle.std.proofs.Math.Path.{refl, sym, ap, subst⁻¹}
use Rattle.std.proofs.Common.{◌∙◌, subst}
use native.Mathlib.Omega.{arith}
use borrow.Author.Tests.{ltb-false, ne_eqb}
use Rattle.dcel.specs.MeshRows.{links_in, places_in}
use Rattle.dcel.specs.Rows.{row_from_of}
use Rattle.dcel.specs.Views.{length_from}
use Rattle.finish.specs.Finished.{Finished}
use Rattle.finish.specs.declared.Totals.{Totals}
use Rattle.heights.specs.Heights.{SurfaceRows, height_of, HeightsLent, heights_lent, HeightsGiven, heights_checked, heights_tested}
use Rattle.heights.proofs.HeightsLaws.{heights-accept, given-tested, tested-accept, own-table, own-refused}
use Rattle.locate.specs.Locate.{check_ring, check_start}
use Rattle.mesh_check.specs.Checked.{Checked}
use Rattle.mesh_check.specs.declared.Refusal.{Refusal}
use Rattle.mesh_check.specs.Check.{and_then, check_with, point_count, vertex_count}
use Rattle.mesh_check.specs.CheckLaws.{NumberedTo}
use Rattle.mesh_check.proofs.CheckLawsFacts.{numbered-at, then-accepts}
use Rattle.start.specs.Start.{sweep_rows_short, sweep_checked}
use Rattle.start.specs.StartLaws.{sweep-numbered}
use Rattle.sweep.specs.Run.{answer_words, RunLent, RunOutcome, ran_with, run_checked, run_outcome, run_of}
use Rattle.sweep.specs.Demand3.{Demand3}
use Rattle.sweep.proofs.RunLaws.{run-accepts, run-start, run-accepted, run-finishes}
use Rattle.surface.specs.CarriedHeights.{CarriedHeights}
use Rattle.surface.proofs.CarriedHeightsLaws.{numbered, carried-by}
use Rattle.surface.proofs.RunHeights.{run-stored}
use Rattle.surface.proofs.RunVertices.{added-used, inserted-used, last-used}
use Rattle.surface.proofs.StoredLaws.{heights-end}
use Rattle.surface.specs.StoredHeights.{fate_word, is_from, vertex_word, answered_heights, is_made, place_of, finished_heights}
use Rattle.surface.specs.Surface.{heights_after, run_heights, SurfaceRunLent, surface_run_lent, surface_ran, surface_run_checked, surface_run}
use Rattle.surface.specs.StoreReady.{FatesRoom, StoreReady}
use Rattle.surface.proofs.SurfaceLawsFacts.{heights-after}

module _ (g : SurfaceRunLent) where
  abbrev l : RunLent
  l = g.run

  abbrev N : ℕ
  N = point_count l.points

  abbrev pub surface_of : SurfaceRows
  surface_of = record { mesh = l.mesh; heights = g.heights }

  abbrev pub run_heights_lent : HeightsLent
  run_heights_lent =
      heights_lent l.points g.point_heights_of
      (sweep_rows_short (ltb (length l.answers) (answer_words * N)) (vertex_count l.counts l.points)
      (length l.ring.nodes) (length l.ring.freed) (length l.ring.buckets) (length l.pending)) false

  abbrev next : Checked
  next = check_ring l.counts (links_in l.mesh) (places_in l.mesh) l.center.x l.center.y

  begins : run_checked l ≡ and_then (check_with l.points run_heights_lent.short l.counts l.mesh) next
  unfolding run_checked sweep_checked check_start
  begins = refl

  run-table : heights_tested run_heights_lent l.counts surface_of ≡ Ok tt → surface_run_checked g ≡ run_checked l
  unfolding surface_run_checked
  run-table e = own-table run_heights_lent l.counts surface_of next begins e

  pub run-refused : {r : Refusal} → heights_tested run_heights_lent l.counts surface_of ≡ Err r
      → surface_run g
      ≡ surface_ran (ran_with (record { counts = l.counts; finished = Err r }) l.mesh l.ring l.pending l.answers) g.heights
  unfolding surface_run surface_run_checked run_outcome heights_after
  run-refused e = rw (own-refused run_heights_lent l.counts surface_of next begins e) refl

  pub run-own : heights_tested run_heights_lent l.counts surface_of ≡ Ok tt → (surface_run g).call ≡ run_of l
  unfolding surface_run run_of
  run-own e = rw (run-table e) refl

  -- ---- the row of heights, from the answers
  abbrev z : ℕ → ℤ
  z = height_of g.point_heights_of

  abbrev h : ℕ → ℤ
  h = height_of g.heights

  table-numbered : NumberedTo 7 (run_checked l)
  unfolding run_checked
  table-numbered = sweep-numbered _ _ _ _ _ _ _ _ _

  refused-answer : {r : Refusal} → run_checked l ≡ Err r → (run_of l).answer ≡ record { counts = l.counts; finished = Err r }
  unfolding run_of run_outcome
  refused-answer k = rw k refl

  -- refused by the table of the call on the mesh alone: a number up to 7, and no height is stored
  refused-made : {r : Refusal} → run_checked l ≡ Err r → is_made (run_of l).answer.finished ≡ false
  unfolding is_made
  refused-made {r} k = rw (refused-answer k, ne_eqb r.number 9 (λ q. let n = numbered in omega arith)) refl
    where
      numbered : r.number ≤ 7
      numbered = (numbered-at (subst (NumberedTo 7) k table-numbered)).1

  refused-heights : {r : Refusal} → run_checked l ≡ Err r → h ≡ finished_heights (run_of l).answer (run_of l).answers z h N
  unfolding finished_heights
  refused-heights k = rw (refused-made k) refl

  pub run-heights : heights_tested run_heights_lent l.counts surface_of ≡ Ok tt → (row : List ℤ) → length row ≡ length g.heights
      → height_of row ≡ finished_heights (run_of l).answer (run_of l).answers z h N
      → (surface_run g).heights ≡ row
  unfolding surface_run
  run-heights e row a b =
      rw (run-table e) (sym (heights-after (run_checked l) g.heights row a (λ r k. b ∙ sym (refused-heights k)) (λ k. b ∙ sym (run-stored l k z h))))

-- ---- where no refusal number is answered
module _ (g : SurfaceRunLent) (t : Totals) (q : (surface_run g).call.answer.finished ≡ Ok t) where
  refused-finished : {r : Refusal} → surface_run_checked g ≡ Err r → (surface_run g).call.answer.finished ≡ Err r
  unfolding surface_run run_outcome
  refused-finished k = rw k refl

  -- the table accepted it, heights and all
  checked : surface_run_checked g ≡ Ok tt
  checked = go (surface_run_checked g) refl
    where
      go : (c : Checked) → surface_run_checked g ≡ c → surface_run_checked g ≡ Ok tt
      go (Ok tt) k = k
      go (Err r) k = absurd (let w = sym (refused-finished k) ∙ q in let y : ◌≡◌ {A = ℕ} 0 1 = cc in omega arith)

  parts : (heights_checked (run_heights_lent g) g.run.counts (surface_of g) ≡ Ok tt) × (run_checked g.run ≡ Ok tt)
  unfolding surface_run_checked
  parts = then-accepts _ (run_checked g.run) checked

  own-run : (surface_run g).call ≡ run_of g.run
  unfolding surface_run run_of
  own-run = rw (checked, parts.1) refl

  run-answer : (run_of g.run).answer.finished ≡ (surface_run g).call.answer.finished
  run-answer = ap (λ (r : RunOutcome). r.answer.finished) (sym own-run)

  pub surface-demand-3 : Demand3 g.run (surface_run g).call t
  surface-demand-3 =
      subst⁻¹ (λ (r : RunOutcome). Demand3 g.run r t) own-run
      (run-accepted g.run t (run-answer ∙ q)).0

  -- ---- the heights are those that the answers store
  made : is_made (run_of g.run).answer.finished ≡ true
  unfolding is_made
  made = ap is_made (run-answer ∙ q)

  ended : place_of (N g) (run_of g.run).answer.finished ≡ N g
  unfolding place_of
  ended = ap (place_of (N g)) (run-answer ∙ q)

  row_is : (surface_run g).heights ≡ row_from_of (length g.heights) (run_heights g.run (z g) (h g))
  unfolding surface_run heights_after
  row_is = rw checked refl

  heights-are : (surface_run g).heights
      ≡ row_from_of (length g.heights) (answered_heights (surface_run g).call.answers (z g) (h g) (N g))
  heights-are =
      row_is
      ∙ ap (row_from_of (length g.heights))
      (run-stored g.run parts.1 (z g) (h g)
      ∙ heights-end (run_of g.run).answer (run_of g.run).answers (z g) (h g) (N g) made ended
      ∙ ap (λ (r : RunOutcome). answered_heights r.answers (z g) (h g) (N g)) (sym own-run))

  most : (surface_run g).call.answer.counts.vertices ≤ length g.heights
  unfolding vertex_count
  most =
      let a = (heights-accept (run_heights_lent g) g.run.counts (surface_of g) parts.0).vertices in
      let b = (run-finishes g.run t (run-answer ∙ q)).most in
      let e = ap (λ (r : RunOutcome). r.answer.counts.vertices) own-run in
      omega arith

  pub carried-heights : CarriedHeights g (surface_run g)
  carried-heights = carried-by g (surface_run g) (numbered surface-demand-3) heights-are most

-- ---- links and fates ignore heights: two runs that differ in heights alone
pub run-ignores : (l : RunLent) (heights point_heights_of heights' point_heights' : List ℤ)
    → (let g = surface_run_lent l heights point_heights_of in HeightsGiven (run_heights_lent g) l.counts (surface_of g))
    → (let g = surface_run_lent l heights' point_heights' in HeightsGiven (run_heights_lent g) l.counts (surface_of g))
    → (surface_run (surface_run_lent l heights point_heights_of)).call ≡ (surface_run (surface_run_lent l heights' point_heights')).call
run-ignores l heights point_heights_of heights' point_heights' G G' =
    run-own (surface_run_lent l heights point_heights_of) (given-tested _ _ _ G) ∙ sym (run-own (surface_run_lent l heights' point_heights') (given-tested _ _ _ G'))

-- ---- what is stored from
module _ (g : SurfaceRunLent) (e : heights_tested (run_heights_lent g) g.run.counts (surface_of g) ≡ Ok tt) where
  abbrev l₁ : RunLent
  l₁ = g.run

  -- the steps were made, so the table had accepted them
  made-checked : is_made (run_of l₁).answer.finished ≡ true → run_checked l₁ ≡ Ok tt
  made-checked m = go (run_checked l₁) refl
    where
      go : (c : Checked) → run_checked l₁ ≡ c → run_checked l₁ ≡ Ok tt
      go (Ok tt) k = k
      go (Err r) k = absurd (false≢true (sym (refused-made g k) ∙ m))

  answers-same : run_checked l₁ ≡ Ok tt → length (run_of l₁).answers ≡ length l₁.answers
  unfolding run_of run_outcome
  answers-same k = rw k (length_from (length l₁.answers) _)

  -- the rows have room for what the answers name
  rooms : (low high : ℕ) (k : run_checked l₁ ≡ Ok tt)
      → ((i : ℕ) → i < point_count l₁.points → T (is_from low high (fate_word (run_of l₁).answers i))
      → vertex_word (run_of l₁).answers i < l₁.counts.vertices + point_count l₁.points)
      → FatesRoom low high (length g.heights) (length g.point_heights_of) (run_of l₁).answers (point_count l₁.points)
  unfolding vertex_count
  rooms low high k used i a =
      let A = tested-accept (run_heights_lent g) l₁.counts (surface_of g) e in
      let v = A.vertices in let p = A.points in
      let r = ltb-false (length l₁.answers) (answer_words * point_count l₁.points) (run-accepts l₁ k).others in
      let n = answers-same k in
      let s = (run-start l₁ k).mesh.most in
      record {
        answer = omega arith;
        height = omega arith;
        vertex = λ t. let u = used i a t in omega arith;
        small = λ t. let u = used i a t in omega arith;
      }

  pub store-ready : StoreReady (point_count l₁.points) (length g.heights) (length g.point_heights_of) (run_of l₁).answers (run_of l₁).answer
  unfolding vertex_count
  store-ready =
      let A = tested-accept (run_heights_lent g) l₁.counts (surface_of g) e in
      let v = A.vertices in
      record {
        few = λ m. let s = (run-start l₁ (made-checked m)).mesh.most in omega arith;
        points = λ m. A.points;
        added = λ m. let k = made-checked m in rooms 1 1 k (added-used l₁ k);
        inserted = λ m. let k = made-checked m in rooms 6 9 k (inserted-used l₁ k);
        last = λ m a. let u = last-used l₁ (made-checked m) a in (u.0, let w = u.1 in omega arith);
      }
