-- What a run on lent rows leaves can be listed, and its listing by what it answered. Assumes nothing.
use Rattle.std.specs.Prelude.{Ok, Err}
use mathlib.Core.List.{List, ◌++◌}
use mathlib.Core.Path.{◌≡◌, refl}
use Prim.Native.Nat.{ℕ, ◌+◌, ◌*◌, ◌≤◌}
use native.Mathlib.Nat.{le_refl}
use native.Mathlib.Omega.{arith}
use borrow.Author.Tests.{ltb-false}
use lib.IntN.{ℤ}
use lib.ListN.{length, replicate}
use Rattle.angle.specs.declared.Point2.{Point2}
use Rattle.dcel.specs.MeshRows.{MeshRows, links_in, places_in}
use Rattle.dcel.specs.Rows.{links_of, position_of}
use Rattle.finish.specs.declared.FinishAnswer.{FinishAnswer}
use Rattle.finish.specs.Finished.{Finished}
use Rattle.finish.specs.declared.Totals.{Totals}
use Rattle.listing_text.specs.Listing.{totals_line, refusal_line}
use Rattle.mesh.specs.declared.Counts.{Counts}
use Rattle.mesh.specs.Area.{area_total}
use Rattle.mesh.proofs.CountsLaws.{faces-fit}
use Rattle.mesh.specs.Good.{Good}
use Rattle.mesh_check.specs.declared.Refusal.{Refusal}
use Rattle.mesh_check.specs.Check.{point_count, vertex_count}
use Rattle.mesh_check.specs.Readable.{Readable}
use Rattle.mesh_check.proofs.ReadableLaws.{readable-rows}
use Rattle.ring_rows.specs.declared.Node.{Node}
use Rattle.ring_rows.specs.Rows.{zero_node}
use Rattle.ring_rows.specs.RingRows.{ring_rows}
use Rattle.sweep.specs.Run.{RunLent, RunOutcome, run_lent, ran_with, answer_words, run_of}
use Rattle.sweep.proofs.RunLaws.{run-accepts, run-start, run-accepted, run-finishes}
use Rattle.listing_run.specs.ListingRun.{finished_listing, outcome_listing, lent_listing, point_lines, totals_of}
use Rattle.listing_run.specs.ListingRunRows.{RanWithOwnNodes, Listable}

-- the corners of a good mesh can be read in rows that are long enough
readable : {C : Counts} (o h a : List ℕ) (P : List ℤ) → Good C (links_of o h a) (position_of P) → 2 * C.vertices ≤ length P
    → 24 * C.vertices ≤ length h → 2 * C.vertices ≤ length a → Readable C P h a
readable o h a P G ps hs fs =
    readable-rows o h a P G.wf (λ v k. record { there = omega arith; range = G.range k }) hs fs

-- ---- a run with at most 400 vertices
module _ (l : RunLent) (few : l.counts.vertices + point_count l.points ≤ 400) where
  abbrev R : RunOutcome
  R = run_of l

  run-listable : (t : Totals) → R.answer.finished ≡ Ok t
      → Listable R.answer.counts R.mesh.positions R.mesh.halves R.mesh.faces R.answers (point_count l.points)
  unfolding vertex_count
  run-listable t z =
      let F = run-finishes l t z in
      let K = (run-accepted l t z).1 in
      let M = (run-start l F.checked).mesh.rows in
      let m = F.most in
      let p = M.positions in let h = M.halves in let a = M.faces in
      let S = K.leaves.lengths in let w = K.answers-length in
      let p' = S.positions in let h' = S.halves in let a' = S.faces in
      let u = faces-fit F.good.wf (le_refl R.answer.counts.vertices) in
      let b = ltb-false (length l.answers) (answer_words * point_count l.points) (run-accepts l F.checked).others in
      record {
        mesh = record { readable = readable _ _ _ _ F.good (omega arith) (omega arith) (omega arith); few = omega arith };
        room = omega arith;
      }

  -- the rows as they were found
  pub outcome-listable : {r : RunOutcome} {count : ℕ} → r ≡ run_of l → count ≡ point_count l.points → (t : Totals) → r.answer.finished ≡ Ok t
      → Listable r.answer.counts r.mesh.positions r.mesh.halves r.mesh.faces r.answers count
  outcome-listable {r} {count} e n t z = rw (n, e) (run-listable t (rw e at z))

-- ---- what is printed
pub listing-refused : (count : ℕ) (r : RunOutcome) {x : Refusal} → r.answer.finished ≡ Err x → refusal_line x.number x.place ≡ outcome_listing count r
unfolding finished_listing
listing-refused count r e = rw e refl

pub listing-accepted : (count : ℕ) (r : RunOutcome) {t : Totals} → r.answer.finished ≡ Ok t
    → point_lines r.answers count
    ++ totals_line (totals_of r.answer.counts (area_total r.answer.counts (links_in r.mesh) (places_in r.mesh)) t) ≡ outcome_listing count r
unfolding finished_listing
listing-accepted count r e = rw e refl

pub listing-run : (l : RunLent) {r : RunOutcome} {count : ℕ} → r ≡ run_of l → count ≡ point_count l.points → outcome_listing count r ≡ lent_listing l
listing-run l e n = rw (e, n) refl

-- ---- a run with a row of nodes of its own
pub ran-with-own : {C : Counts} {m : MeshRows} {nodes : List Node} {freed buckets pending answers : List ℕ} {center : Point2} {points : List ℤ}
    {r : FinishAnswer} {m' : MeshRows} {nodes' : List Node} {freed' buckets' pending' answers' : List ℕ}
    → ran_with r m' (ring_rows nodes' freed' buckets') pending' answers'
    ≡ run_of (run_lent C m (ring_rows nodes freed buckets) pending answers center points)
    → nodes ≡ replicate 401 zero_node
    → RanWithOwnNodes (run_lent C m (ring_rows (replicate 401 zero_node) freed buckets) pending answers center points)
    r m' freed' buckets' pending' answers'
ran-with-own {nodes' = nodes'} e z = record { nodes = nodes'; is = rw (← z) e }
