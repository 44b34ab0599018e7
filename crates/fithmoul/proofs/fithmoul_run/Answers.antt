-- `fithmoul::fithmoul_run` meets its contract. Assumes nothing.
use mathlib.Core.Path.{sym, ◌∙◌, ap, subst⁻¹}
use lib.ListN.{length}
use Rattle.heights.specs.Heights.{height_of}
use Rattle.mesh_check.specs.Check.{point_count}
use Rattle.surface.specs.StoreReady.{StoreReady}
use Rattle.surface.specs.StoredHeights.{finished_heights}
use Rattle.surface.proofs.SurfaceRunLaws.{run-refused, run-own, run-heights, store-ready}
use Rattle.sweep.specs.Run.{RunOutcome}
use Rattle.fithmoul.specs.Exported.{run-exported, run-whole}
use Rattle.fithmoul.specs.Laws.{accepted-run}
use borrow.Author.Rules.{rules}
use Rattle.fithmoul.proofs.fithmoul_run.Goals as goal

pub returns-in-Err : goal.returns-in-Err
returns-in-Err c =
    let e = rw c.answers_short-few.ensures at c.check_run-checked.ensures in
    let x = run-exported _ (sym (run-refused _ (sym e ∙ c.in-Err.is))) c.run_refused.ensures in
    (x.0, x.1, λ z. accepted-run _ _ _ x.0 z)

pub store_run-requires : goal.store_run-requires
store_run-requires c =
    let e = rw c.answers_short-few.ensures at c.check_run-checked.ensures in
    let b = c.run-answer.ensures.is in
    let a = c.args in
    subst⁻¹ (λ (w : RunOutcome).
    StoreReady (point_count a.points.now) (length a.heights.now) (length a.point_heights.now) w.answers w.answer)
    b (store-ready _ (sym e ∙ c.in_default.is))

pub returns : goal.returns
returns c =
    let e = rw c.answers_short-few.ensures at c.check_run-checked.ensures in
    let E = sym e ∙ c.in_default.is in
    let b = c.run-answer.ensures.is in
    let a = c.args in
    let h =
    c.store_run.ensures
    ∙ ap (λ (w : RunOutcome).
    finished_heights w.answer w.answers (height_of a.point_heights.now) (height_of a.heights.now)
    (point_count a.points.now)) b in
    let x = run-exported _ (run-whole (run-own _ E) b (run-heights _ E _ c.store_run.auto.heights h)) c.run_result.ensures in
    (x.0, x.1, λ z. accepted-run _ _ _ x.0 z)
