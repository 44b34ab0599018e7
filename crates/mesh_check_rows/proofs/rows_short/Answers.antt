-- `mesh_check_rows::rows_short` meets its contract. Assumes nothing.
use mathlib.Core.Path.{◌∙◌}
use Rattle.mesh_check.specs.Check.{rows_short}
use Rattle.mesh_check_rows.proofs.Search.{alone, paired}
use Rattle.mesh_check_rows.proofs.rows_short.Goals as goal

pub returns-then-points-ne0 : goal.returns-then-points-ne0
unfolding rows_short
returns-then-points-ne0 c = rw (alone c.args.points.now c.if-points-ne0.true)

pub returns : goal.returns
unfolding rows_short
returns c = c.mesh_rows_short.ensures ∙ rw (paired c.args.points.now c.if-points-ne0.false)
