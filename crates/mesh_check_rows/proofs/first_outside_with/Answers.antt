-- `mesh_check_rows::first_outside_with` meets its contract. Assumes nothing.
use native.Mathlib.Omega.{arith}
use Rattle.mesh_check_rows.proofs.Search.{in-seed, in-points, outside-most}
use Rattle.mesh_check_rows.proofs.first_outside_with.Goals as goal

pub returns-then-i-s : goal.returns-then-i-s
returns-then-i-s c = in-seed _ _ _ _ c.first_outside-i.ensures c.if-i-s.true

pub overflow_add-result : goal.overflow_add-result
overflow_add-result c = let l = outside-most _ _ c.first_outside.ensures in omega arith

pub returns : goal.returns
returns c = in-points _ _ _ _ c.first_outside-i.ensures c.if-i-s.false c.first_outside.ensures
