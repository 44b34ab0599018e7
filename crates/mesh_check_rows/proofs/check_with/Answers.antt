-- `mesh_check_rows::check_with` meets its contract. Assumes nothing.
use mathlib.Core.Path.{sym, ◌∙◌}
use Rattle.std.proofs.lemmas.Result.{err_from_is_err_and}
use Rattle.mesh_check.proofs.AcceptedLaws.{range-rows, with-refused, with-next}
use Rattle.mesh_check_rows.proofs.check_with.Goals as goal

pub check_faces-requires : goal.check_faces-requires
check_faces-requires c = range-rows _ _ _ _ (sym c.check_range.ensures ∙ c.in_ok-check_range.was)

pub returns-in_err-check_range : goal.returns-in_err-check_range
returns-in_err-check_range c = let p = err_from_is_err_and c.from_residual.result c.from_residual.ensures.1 in rw (p.1, p.2) (with-refused _ _ _ _ (sym c.check_range.ensures ∙ c.in_err-check_range.was))

pub returns : goal.returns
returns c = c.check_faces.ensures ∙ with-next _ _ _ _ (sym c.check_range.ensures ∙ c.in_ok-check_range.was)
