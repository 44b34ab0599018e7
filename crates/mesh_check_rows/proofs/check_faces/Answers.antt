-- `mesh_check_rows::check_faces` meets its contract. Assumes nothing.
use borrow.Author.Tests.{not-true, not-false}
use Rattle.std.specs.Prelude.{Err}
use mathlib.Core.Path.{sym, ◌∙◌, ap}
use Rattle.mesh_check.proofs.CheckLawsFacts.{faces-rules, faces-turn, faces-accepted}
use Rattle.mesh_check_rows.proofs.Call.{mesh-there, readable}
use Rattle.mesh_check_rows.proofs.check_faces.Goals as goal

pub mesh_rules-requires : goal.mesh_rules-requires
mesh_rules-requires c = mesh-there c.requires

pub returns-then-not-mesh_rules : goal.returns-then-not-mesh_rules
returns-then-not-mesh_rules c = ap Err c.of_call.ensures ∙ faces-rules _ _ _ (sym c.mesh_rules.ensures ∙ not-true _ c.if-not-mesh_rules.true-raw)

pub first_not_left-f-requires : goal.first_not_left-f-requires
first_not_left-f-requires c = readable c.requires (sym c.mesh_rules.ensures ∙ not-false _ c.if-not-mesh_rules.false-raw)

pub returns-then-f-counts : goal.returns-then-f-counts
returns-then-f-counts c =
    ap Err c.at.ensures
    ∙ faces-turn _ _ _ (sym c.mesh_rules.ensures ∙ not-false _ c.if-not-mesh_rules.false-raw) (c.first_not_left-f.ensures _) c.if-f-counts.true

pub returns : goal.returns
returns c =
    faces-accepted _ _ _ (sym c.mesh_rules.ensures ∙ not-false _ c.if-not-mesh_rules.false-raw) (c.first_not_left-f.ensures _) c.if-f-counts.false
