-- The bound for a count of flips: flips made and vertices inside circles, together, stay at most one vertex for each
-- triangle (`FlipsWithin`). A flip does not raise it, and a new face pays for itself. So however often corners are closed
-- and edges legalized, the flips of a mesh of n vertices are fewer than 2 n ^ 2: for a million vertices fewer than 2 ^ 41.
-- Assumes nothing.
use Rattle.std.specs.Prelude.{◌≡◌, ℕ, zero, suc, ◌+◌, ◌*◌, ◌-◌, ◌^◌, ◌<◌, ◌≤◌}
use Rattle.std.proofs.Common.{mul-le-mul, suc-mul, mul-add, mul-one, arith}
use Rattle.algebra.proofs.Order.{lt-le}
use Rattle.math.specs.declared.Point.{Point}
use Rattle.mesh.specs.declared.Counts.{Counts}
use Rattle.mesh.specs.Mesh.{Links}
use Rattle.mesh.proofs.CircleLawsFacts.{breaks, breaks-flippable}
use Rattle.mesh.proofs.CountsLaws.{faces-fit, vertices-few}
use Rattle.mesh.specs.FlipRun.{FlipRun, none, then}
use Rattle.mesh.proofs.FlipRunLaws.{run-good}
use Rattle.mesh.specs.HeightLaws.{FaceAdded}
use Rattle.mesh.specs.Good.{Good}
use Rattle.mesh.specs.Wf.{Wf}
use Rattle.conflicts.specs.Conflicts.{conflicts}

-- ---- flips made and vertices inside circles
pub record FlipsWithin (C : Counts) (L : Links) (p : ℕ → Point) (flips : ℕ) : Type 0 where
  pub within : flips + conflicts C L p ≤ (C.faces - 1) * C.vertices
