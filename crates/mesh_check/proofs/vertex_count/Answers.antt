-- `mesh_check::vertex_count` meets its contract. Assumes nothing.
use native.Mathlib.Omega.{arith}
use mathlib.Core.Path.{ap}
use Prim.Native.Nat.{ℕ, ◌+◌}
use Rattle.mesh_check.specs.Check.{vertex_count, point_count}
use Rattle.mesh_check.proofs.vertex_count.Goals as goal

pub overflow_add-result : goal.overflow_add-result
unfolding point_count
overflow_add-result c = let e = c.point_count.ensures in omega arith

pub returns : goal.returns
unfolding vertex_count
returns c = ap (λ (n : ℕ). c.args.counts.vertices + n) c.point_count.ensures
