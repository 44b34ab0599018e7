-- What the checks of a run give the functions that it calls up to its steps. Assumes nothing.
use Rattle.std.specs.Prelude.{Bool, List, ◌≡◌, refl, ℕ, ◌*◌, ◌^◌, ◌<◌, ltb, length, Ok}
use Rattle.std.proofs.Common.{◌∙◌}
use native.Mathlib.Omega.{arith}
use borrow.Author.Tests.{ltb-false}
use Rattle.mesh.specs.declared.Counts.{Counts}
use Rattle.mesh_check.specs.Checked.{Checked}
use Rattle.mesh_check.specs.Check.{point_count, vertex_count}
use Rattle.ring_rows.specs.declared.Node.{Node}
use Rattle.ring_rows.specs.declared.Hull.{Hull}
use Rattle.start.specs.Start.{sweep_checked}
use Rattle.start.specs.StartRows.{ToStart, Started}
use Rattle.sweep.specs.Run.{answer_words, RunLent, run_checked}
use Rattle.sweep.proofs.RunLaws.{run-accepts, run-start}
use Rattle.steps.specs.StepsRows.{SweepReady}

-- the checks, with the test of the answers row
pub run-checks : (l : RunLent) {short : Bool} {r : Checked} → short ≡ ltb (length l.answers) (answer_words * point_count l.points)
    → r ≡ sweep_checked l.points short l.counts l.mesh
    (length l.ring.nodes) (length l.ring.freed) (length l.ring.buckets) (length l.pending) l.center
    → r ≡ run_checked l
unfolding run_checked
run-checks l s e = e ∙ rw s refl

module _ (l : RunLent) (e : run_checked l ≡ Ok tt) where
  abbrev C : Counts
  C = l.counts

  abbrev n : ℕ
  n = point_count l.points

  pub points-fit : n < 2 ^ 32
  unfolding vertex_count
  points-fit = let m = (run-start l e).mesh.most in omega arith

  pub to_start : ToStart C l.mesh.positions l.mesh.halves l.mesh.faces
      (length l.ring.nodes) (length l.ring.buckets) l.center
  unfolding vertex_count
  to_start =
      let r = (run-accepts l e).ring-rows in
      record { points = l.points; outs = l.mesh.outs; start = run-start l e; node-room = let k = r.nodes-fit in omega arith; bucket-room = let k = r.sixteen in omega arith }

  pub to-sweep : (nodes : List Node) (buckets : List ℕ) (hull : Hull)
      → Started C l.mesh.positions l.mesh.halves l.mesh.faces nodes buckets hull l.center
      → length nodes ≡ length l.ring.nodes → length buckets ≡ length l.ring.buckets → (count : ℕ) → count ≡ n
      → SweepReady C l.mesh.positions l.mesh.outs l.mesh.halves l.mesh.faces l.pending
      nodes l.ring.freed buckets l.answers hull l.center.x l.center.y l.points count
  unfolding vertex_count
  to-sweep nodes buckets hull S u v count c =
      let A = run-accepts l e in
      let M = (run-start l e).mesh in
      let m = M.most in
      let p = M.rows.positions in let o = M.rows.outs in let h = M.rows.halves in let f = M.rows.faces in
      let x = A.ring-rows.nodes-fit in let y = A.ring-rows.freed-fit in let z = A.ring-rows.buckets-fit in
      record {
        sweep = S.sweep (run-start l e) (omega arith);
        room = record {
          most = omega arith;
          positions = omega arith;
          outs = omega arith;
          sized = record { halves = omega arith; faces = omega arith; pending = A.pending-rows; small = omega arith };
          node-room = omega arith;
          freed-room = omega arith;
          bucket-room = omega arith;
          nodes-most = let k = S.nodes-most in omega arith;
        };
        range = λ i k. M.range (omega arith);
        pairs = let k = M.pairs in omega arith;
        answers-room = let k = ltb-false (length l.answers) (answer_words * n) A.others in omega arith;
      }
