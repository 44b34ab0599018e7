-- The loop of `mesh_check_rows::first_outside`.
use Rattle.dcel.specs.Rows.{position_of}
use Rattle.mesh_check.specs.Check.{is_outside}
use Rattle.mesh_check_rows.proofs.Search.{Missed}
use Rattle.mesh_check_rows.proofs.first_outside.Given as goal

abbrev pub invariant-loop-v : goal.invariant-loop-v
invariant-loop-v l = Missed (λ j. is_outside (position_of l.row j)) l.v
