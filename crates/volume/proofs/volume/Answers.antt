-- `volume::volume` meets its contract. Assumes nothing.
use Rattle.std.proofs.lemmas.Result.{err_from_is_err_and}
use mathlib.Core.Path.{sym, ◌∙◌, ap}
use mir.Facts.{to_z-of_z}
use Rattle.heights.specs.Heights.{is_valid_height}
use Rattle.volume.proofs.Call.{refused-volume, measurable, accepted-volume}
use Rattle.volume.proofs.volume.Goals as goal

pub measure-requires : goal.measure-requires
measure-requires c =
    let v = c.validate_height-outside.ensures ∙ ap is_valid_height (to_z-of_z c.ranges.level) in
    rw (to_z-of_z c.ranges.level) (measurable _ _ _ _ v (sym c.check_surface.ensures ∙ c.in_ok-check_surface.was))

pub returns-in_err-check_surface : goal.returns-in_err-check_surface
returns-in_err-check_surface c =
    let v = c.validate_height-outside.ensures ∙ ap is_valid_height (to_z-of_z c.ranges.level) in
    let p = err_from_is_err_and c.from_residual.result c.from_residual.ensures.1 in
    rw (p.1, p.2) (refused-volume _ _ _ _ v (sym c.check_surface.ensures ∙ c.in_err-check_surface.was))

pub returns : goal.returns
returns c =
    let v = c.validate_height-outside.ensures ∙ ap is_valid_height (to_z-of_z c.ranges.level) in
    let w = rw (to_z-of_z c.ranges.level) at (c.measure.ensures c.args.outs.now) in
    accepted-volume _ _ _ _ v (sym c.check_surface.ensures ∙ c.in_ok-check_surface.was) w
