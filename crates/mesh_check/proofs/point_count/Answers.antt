-- `mesh_check::point_count` meets its contract. Assumes nothing.
use native.Mathlib.Omega.{arith}
use Rattle.mesh_check.specs.Check.{point_count}
use Rattle.mesh_check.proofs.point_count.Goals as goal

pub returns : goal.returns
unfolding point_count
returns c = omega arith
