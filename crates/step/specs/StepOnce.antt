-- The step on rows that the checks accept, by its two parts `sweep_once` and `answer_of`: it is the call's. Assumes nothing.
use Rattle.std.specs.Prelude.{List, ◌≡◌, ℕ, length, Ok}
use Rattle.std.proofs.Math.Path.{refl}
use Rattle.angle.specs.declared.Point2.{Point2}
use Rattle.dcel.specs.MeshRows.{MeshRows, SameLengths}
use Rattle.dcel.specs.Views.{mesh-rows-from}
use Rattle.math.specs.declared.Point.{Point}
use Rattle.mesh.specs.declared.Counts.{Counts}
use Rattle.mesh_check.specs.Checked.{Checked}
use Rattle.ring_rows.specs.RingRows.{RingRows}
use Rattle.step.specs.declared.Progress.{Progress}
use Rattle.step.specs.StepRows.{stepping_of, SweptOnce}
use Rattle.sweep.specs.declared.StepAnswer.{StepAnswer}
use Rattle.sweep.specs.StepCall.{answer_from, step_checked, stepped_with, step_outcome, step_of}

module _ (C : Counts) (m : MeshRows) (ring : RingRows) (pending : List ℕ) (center : Point2) (v : Point) where
  outcome-is : {x x' : StepAnswer} {m₁ m₂ : MeshRows} {g₁ g₂ : RingRows} {p₁ p₂ : List ℕ} → x ≡ x' → m₁ ≡ m₂ → g₁ ≡ g₂ → p₁ ≡ p₂
      → stepped_with x m₁ g₁ p₁ ≡ stepped_with x' m₂ g₂ p₂
  outcome-is a b c d = rw (a, b, c, d) refl

  pub swept-outcome :
      step_checked C m (length ring.nodes) (length ring.freed) (length ring.buckets) (length pending) center v ≡ Ok tt
      → {x : StepAnswer} {m' : MeshRows} {ring' : RingRows} {pending' : List ℕ} {r : Progress}
      → SweptOnce C m ring pending m' ring' pending' center v r → SameLengths m m' → x ≡ answer_from 0 (stepping_of m' r)
      → stepped_with x m' ring' pending' ≡ step_of C m ring pending center v
  unfolding step_of step_outcome stepping_of
  swept-outcome e K S y =
      rw (e, ← K.is) (outcome-is y (mesh-rows-from S refl refl) K.zeros.ring-zero K.zeros.pending-zero)
