-- `heights::check_surface` meets its contract. Assumes nothing.
use Rattle.std.proofs.lemmas.Result.{err_from_is_err_and}
use mathlib.Core.Path.{sym, ◌∙◌}
use Rattle.heights.proofs.HeightsLaws.{surface-refused, surface-next}
use Rattle.heights.proofs.check_surface.Goals as goal

pub returns-in_err-check_heights : goal.returns-in_err-check_heights
returns-in_err-check_heights c =
    let p = err_from_is_err_and c.from_residual.result c.from_residual.ensures.1 in
    rw (p.1, p.2) (surface-refused _ _ _ (sym c.check_heights.ensures ∙ c.in_err-check_heights.was))

pub returns : goal.returns
returns c = c.check.ensures ∙ surface-next _ _ _ (sym c.check_heights.ensures ∙ c.in_ok-check_heights.was)
