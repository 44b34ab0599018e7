-- `mesh_check_rows::first_outside` meets its contract. Assumes nothing.
use native.Mathlib.Omega.{arith}
use mathlib.Core.Path.{sym, ◌∙◌, ap}
use mathlib.Core.Bool.{not}
use Rattle.math.specs.Determinant.{is_valid_vertex}
use Rattle.mesh_check.specs.Check.{first_outside}
use Rattle.mesh_check_rows.proofs.Search.{missed-none, missed_more, found, found_none}
use Rattle.mesh_check_rows.proofs.first_outside.Goals as goal

pub loop-v-init : goal.loop-v-init
loop-v-init c = missed-none _

pub returns-then-not-validate_vertex : goal.returns-then-not-validate_vertex
unfolding first_outside
returns-then-not-validate_vertex c = found _ _ _ c.loop-v-test.true c.loop-v.invariant (ap not (sym (c.validate_vertex.ensures ∙ ap is_valid_vertex c.position.ensures)) ∙ c.if-not-validate_vertex.true-raw)

pub loop-v-preserved : goal.loop-v-preserved
loop-v-preserved c = (missed_more _ _ c.loop-v.invariant (ap not (sym (c.validate_vertex.ensures ∙ ap is_valid_vertex c.position.ensures)) ∙ c.if-not-validate_vertex.false-raw))

pub returns : goal.returns
unfolding first_outside
returns c = found_none _ _ _ (omega arith) c.loop-v.invariant
