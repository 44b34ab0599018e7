-- `area::area_total` meets its contract. Assumes nothing.
use Rattle.std.proofs.lemmas.Result.{err_from_is_err_and}
use mathlib.Core.Path.{sym, ◌∙◌}
use Rattle.area.proofs.AreaTotalLaws.{checked-summable, refused-area, accepted-area}
use Rattle.area.proofs.area_total.Goals as goal

pub sum_areas-requires : goal.sum_areas-requires
sum_areas-requires c = checked-summable _ _ (sym c.check_surface.ensures ∙ c.in_ok-check_surface.was)

pub returns-in_err-check_surface : goal.returns-in_err-check_surface
returns-in_err-check_surface c =
    let p = err_from_is_err_and c.from_residual.result c.from_residual.ensures.1 in
    rw (p.1, p.2) (refused-area _ _ (sym c.check_surface.ensures ∙ c.in_err-check_surface.was))

pub returns : goal.returns
returns c =
    accepted-area _ _ (sym c.check_surface.ensures ∙ c.in_ok-check_surface.was) (c.sum_areas.ensures _)
