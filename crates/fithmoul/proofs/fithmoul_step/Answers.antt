-- `fithmoul::fithmoul_step` meets its contract. Assumes nothing.
use mathlib.Core.Path.{sym, ◌∙◌, ap}
use mir.Facts.{to_z-of_z}
use Rattle.surface.proofs.SurfaceLawsFacts.{step-refused, step-own, step-heights, step_room}
use Rattle.sweep.specs.StepCall.{StepOutcome}
use Rattle.fithmoul.specs.Exported.{step-exported, step-whole}
use borrow.Author.Rules.{rules}
use Rattle.fithmoul.proofs.fithmoul_step.Goals as goal

pub returns-in-Err : goal.returns-in-Err
returns-in-Err c =
    let f = c.ranges in
    let e = rw (to_z-of_z f.x, to_z-of_z f.y, to_z-of_z f.z) at c.check_step-checked.ensures in
    step-exported (sym (step-refused _ _ _ _ _ _ _ (sym e ∙ c.in-Err.is))) c.from.ensures

pub store_height-requires : goal.store_height-requires
store_height-requires c =
    let f = c.ranges in
    let e = rw (to_z-of_z f.x, to_z-of_z f.y, to_z-of_z f.z) at c.check_step-checked.ensures in
    step_room _ _ _ _ _ (sym e ∙ c.in_default.is)

pub returns : goal.returns
returns c =
    let f = c.ranges in
    let e = rw (to_z-of_z f.x, to_z-of_z f.y, to_z-of_z f.z) at c.check_step-checked.ensures in
    let E = sym e ∙ c.in_default.is in
    let b = rw (to_z-of_z f.x, to_z-of_z f.y) at c.step-answer.ensures in
    let h = rw (to_z-of_z f.z) at c.store_height.ensures in
    step-exported
    (step-whole (step-own _ _ _ _ _ _ _ E) b
    (step-heights _ _ _ _ _ _ _ E _ (ap (λ (w : StepOutcome). w.answer) (sym b)) _ c.store_height.auto.heights h))
    c.from-2.ensures
