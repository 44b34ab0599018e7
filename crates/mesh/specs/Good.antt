-- A good mesh: what the operations keep, and what every accepted call may rely on. Definition only; `GoodLaws` has the
-- preservation theorems.
use Rattle.std.specs.Prelude.{ℕ, ◌<◌}
use Rattle.math.specs.declared.Point.{Point}
use Rattle.math.specs.Determinant.{InRange}
use Rattle.mesh.specs.declared.Counts.{Counts}
use Rattle.mesh.specs.Mesh.{Links}
use Rattle.mesh.specs.Wf.{Wf}
use Rattle.mesh.specs.Area.{LeftTurning}

-- the mesh rules hold, every inner face turns strictly left, and every coordinate is in range: none of 01's refusals 3, 4 and 5 applies
pub record Good (C : Counts) (L : Links) (p : ℕ → Point) : Type 0 where
  pub wf : Wf C L
  pub turning : LeftTurning C L p
  pub range : {v : ℕ} → v < C.vertices → InRange (p v)
