-- `locate::check_locate` meets its contract. No points are given. Assumes nothing.
use Rattle.std.proofs.lemmas.Result.{err_from_is_err_and}
use borrow.Author.Rules.{rules}
use mathlib.Core.Path.{sym, ◌∙◌}
use Rattle.mesh_check.proofs.CheckLawsFacts.{then_next, then-refused}
use Rattle.locate.proofs.check_locate.Goals as goal

pub returns-in_err-check_start : goal.returns-in_err-check_start
returns-in_err-check_start c =
    let p = err_from_is_err_and c.from_residual.result c.from_residual.ensures.1 in
    rw (p.1, p.2) (sym (then-refused _ (sym c.check_start.ensures ∙ c.in_err-check_start.was)))

pub returns : goal.returns
returns c = c.check_angle.ensures ∙ sym (then_next _ (sym c.check_start.ensures ∙ c.in_ok-check_start.was))
