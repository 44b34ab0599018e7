-- M10: a run of no points is the finish of the seed, for every mesh, centre and rows that the checks accept. Assumes nothing.
use Rattle.std.specs.Prelude.{Bool, ◌≡◌, ℕ, ℤ, Ok}
use Rattle.std.proofs.Math.Bool.{true, false, cond}
use mathlib.Core.List.{List, []}
use Rattle.std.proofs.Math.Path.{refl}
use Rattle.std.proofs.Common.{ap, subst, arith, le-ltb}
use Rattle.std.proofs.Math.ListN.{length}
use Rattle.convexity.specs.Convexity.{convexity}
use Rattle.dcel.specs.MeshRows.{links_in, places_in}
use Rattle.dcel.specs.Rows.{position_of}
use Rattle.finish.specs.Finish.{finish_outcome, seed_checked, finish_of}
use Rattle.math.specs.declared.Point.{Point}
use Rattle.mesh.specs.declared.Counts.{Counts}
use Rattle.mesh.specs.Mesh.{Links}
use Rattle.mesh_check.specs.Checked.{Checked}
use Rattle.mesh_check.specs.Accepted.{AcceptedWith}
use Rattle.mesh_check.proofs.AcceptedLaws.{accepts-with}
use Rattle.mesh_check.specs.Check.{point_count}
use Rattle.skipped.specs.Fill.{Filling, fill_start, fill_after, fill_from, complete_mesh}
use Rattle.skipped.proofs.StillLaws.{complete-none}
use Rattle.sweep.specs.Run.{RunLent, sweep_after, complete_after, skipped_of, run_checked, run_outcome, run_of}
use Rattle.sweep.proofs.RunLaws.{run-accepts, run-start}
use Rattle.marked.specs.Marked.{FinishOfSeed}

none : {points : List ℤ} → points ≡ [] → point_count points ≡ 0
unfolding point_count
none z = ap point_count z

-- no point goes in, and none is named
module _ (room : ℕ) (C : Counts) (L : Links) (p : ℕ → Point) (skipped : ℕ → Bool) (point : ℕ → Point) where
  no-position : (complete_mesh room C L p skipped point 0).positions ≡ p
  unfolding complete_mesh fill_from fill_after
  no-position = go (convexity room C p L).full
    where
      go : (b : Bool) → let s : Filling = cond b (record { counts = (convexity room C p L).counts; links = (convexity room C p L).links; positions = p; answered = 0; full = true }) (fill_start (convexity room C p L).counts (convexity room C p L).links p) in s.positions ≡ p
      go true = refl
      go false = refl

  no_place : (complete_mesh room C L p skipped point 0).place ≡ 0
  unfolding complete_mesh fill_from fill_after
  no_place = go (convexity room C p L).full
    where
      go : (b : Bool) → let s : Filling = cond b (record { counts = (convexity room C p L).counts; links = (convexity room C p L).links; positions = p; answered = 0; full = true }) (fill_start (convexity room C p L).counts (convexity room C p L).links p) in cond s.full s.answered 0 ≡ 0
      go true = refl
      go false = refl

module _ (l : RunLent) (z : l.points ≡ []) (e : run_checked l ≡ Ok tt) where
  seed-accepted : seed_checked l.counts l.mesh l.pending ≡ Ok tt
  unfolding seed_checked
  seed-accepted =
      accepts-with {points = []} (le-ltb (length l.pending) 8 (run-accepts l e).pending-rows)
      (subst (λ (points : List ℤ). AcceptedWith points l.counts l.mesh) z (run-start l e).mesh)

  pub no-points : FinishOfSeed l (run_of l)
  unfolding run_of run_outcome sweep_after complete_after finish_of finish_outcome
  no-points =
      let G = (run-start l e).mesh.good in
      let room = length l.pending in
      rw (
        e,
        seed-accepted,
        none z,
        complete-none room G (skipped_of l) (position_of l.points) 0 (λ i k. absurd (omega arith)),
        no_place room l.counts (links_in l.mesh) (places_in l.mesh) (skipped_of l) (position_of l.points),
        no-position room l.counts (links_in l.mesh) (places_in l.mesh) (skipped_of l) (position_of l.points),
      ) refl
