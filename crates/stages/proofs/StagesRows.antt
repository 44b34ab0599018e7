-- The definitions of the two meshes, by whether the checks accept what is lent. Assumes nothing.
use Rattle.std.specs.Prelude.{Ok, Err}
use mathlib.Core.Bool.{false}
use mathlib.Core.List.{List}
use mathlib.Core.Path.{◌≡◌, refl}
use Prim.Native.Nat.{ℕ}
use native.Mathlib.Omega.{arith}
use lib.IntN.{ℤ}
use lib.ListN.{length}
use Rattle.convexity.specs.Convexity.{fix_convexity}
use Rattle.convexity.specs.ConvexityRows.{MeshReady, StartReady}
use Rattle.conflicts.proofs.FlipsWithinLaws.{within_none}
use Rattle.corner.specs.declared.Extension.{Extension}
use Rattle.corner.specs.CornerRows.{extended_of}
use Rattle.dcel.specs.MeshRows.{MeshRows, links_in, places_in}
use Rattle.finish.specs.Finish.{seed_checked}
use Rattle.mesh.specs.declared.Counts.{Counts}
use Rattle.mesh_check.specs.Checked.{Checked}
use Rattle.mesh_check.specs.declared.Refusal.{Refusal}
use Rattle.mesh_check.specs.Check.{point_count}
use Rattle.steps.specs.StepsRows.{sweeping_of}
use Rattle.sweep.specs.Run.{RunLent, run_checked, sweep_after, sweep_of}
use Rattle.stages.specs.Stages.{step_count_of, stepped_of, pass_checked, passed_of}

-- ---- the steps
pub stepped-refused : (l : RunLent) (x : Refusal) → Err x ≡ run_checked l
    → sweeping_of l.mesh (record { counts = l.counts; answered = 0; full = false }) ≡ stepped_of l
unfolding stepped_of step_count_of sweeping_of sweep_after
stepped-refused l x e = rw (← e) refl

pub stepped-accepted : (l : RunLent) → run_checked l ≡ Ok tt → sweep_of l (point_count l.points) ≡ stepped_of l
unfolding stepped_of step_count_of
stepped-accepted l e = rw e refl

-- ---- the pass
-- nothing has been added yet
module _ (C : Counts) where
  abbrev none : Extension
  none = record { counts = C; faces = 0; flips = 0; full = false }

  pub start-ready : {q : List ℤ} {o h a row : List ℕ} → MeshReady q o h a row C → StartReady q o h a row none
  start-ready R = record { ready = record { rows = R.rows; sized = R.sized; flips = within_none; faces = omega arith }; full = refl }

  module _ (m : MeshRows) (pending : List ℕ) where
    pub passed-refused : (x : Refusal) → Err x ≡ seed_checked C m pending
        → extended_of m.outs m.halves m.faces none ≡ passed_of C m pending
    unfolding extended_of passed_of pass_checked
    passed-refused x k = rw (← k) refl

    pub passed-accepted : (Ok tt) ≡ seed_checked C m pending
        → fix_convexity (length pending) (places_in m) (extended_of m.outs m.halves m.faces none) ≡ passed_of C m pending
    unfolding extended_of passed_of pass_checked
    passed-accepted k = rw (← k) refl
