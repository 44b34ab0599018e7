-- `mesh_check_rows::check` meets its contract. No points are given. Assumes nothing.
use mathlib.Core.Path.{◌∙◌}
use Rattle.mesh_check.proofs.AcceptedLaws.{with_none}
use Rattle.mesh_check_rows.proofs.check.Goals as goal

pub returns : goal.returns
returns c = c.check_with.ensures ∙ with_none _ _
