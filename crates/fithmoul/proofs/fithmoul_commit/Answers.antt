-- `fithmoul::fithmoul_commit` meets its contract. Assumes nothing.
use mathlib.Core.Path.{refl, sym, ◌∙◌, ap}
use native.Mathlib.Omega.{arith}
use mir.Facts.{to_z-of_z}
use Rattle.commit.specs.CommitParts.{commit-none, commit-made, commit-sweep, commit-room, commit-own, commit-below}
use Rattle.step.specs.StepOnce.{swept-outcome}
use Rattle.fithmoul.specs.Exported.{commit-exported}
use borrow.Author.Rules.{rules}
use Rattle.fithmoul.proofs.fithmoul_commit.Goals as goal

pub returns-in-Err : goal.returns-in-Err
returns-in-Err c =
    let f = c.ranges in
    let e = rw (to_z-of_z f.x, to_z-of_z f.y, to_z-of_z f.z) at c.check_commit-checked.ensures in
    commit-exported (sym (commit-none _ _ _ _ _ _ _ _ _ (sym e ∙ c.in-Err.is))) c.commit_refused.ensures

pub sweep_once-progress-requires : goal.sweep_once-progress-requires
sweep_once-progress-requires c =
    let f = c.ranges in
    let e = rw (to_z-of_z f.x, to_z-of_z f.y, to_z-of_z f.z) at c.check_commit-checked.ensures in
    rw (to_z-of_z f.x, to_z-of_z f.y) (commit-sweep _ _ _ _ _ _ _ _ _ _ _ (sym e ∙ c.in_default.is))

pub store_height-requires : goal.store_height-requires
store_height-requires c =
    let f = c.ranges in
    let e = rw (to_z-of_z f.x, to_z-of_z f.y, to_z-of_z f.z) at c.check_commit-checked.ensures in
    commit-room _ _ _ _ _ _ _ _ _ _ _ (sym e ∙ c.in_default.is)

pub commit_result-requires : goal.commit_result-requires
commit_result-requires c =
    let f = c.ranges in
    let e = rw (to_z-of_z f.x, to_z-of_z f.y, to_z-of_z f.z) at c.check_commit-checked.ensures in
    commit-below _ _ _ _ _ _ _ _ _ _ _ (sym e ∙ c.in_default.is) (let a = f.changes in omega arith)

pub returns : goal.returns
returns c =
    let f = c.ranges in
    let e = rw (to_z-of_z f.x, to_z-of_z f.y, to_z-of_z f.z) at c.check_commit-checked.ensures in
    let E = sym e ∙ c.in_default.is in
    let b = swept-outcome _ _ _ _ _ _ (commit-own _ _ _ _ _ _ _ _ _ _ _ E) (rw (to_z-of_z f.x, to_z-of_z f.y) at c.sweep_once-progress.ensures)
    (record { positions = c.sweep_once-progress.auto.positions; outs = c.sweep_once-progress.auto.outs; halves = c.sweep_once-progress.auto.halves; faces = c.sweep_once-progress.auto.faces })
    (c.answer_of-answer.ensures _) in
    commit-exported
    (commit-made _ _ _ _ _ _ _ _ _ E b _ c.store_height.auto.heights (rw (to_z-of_z f.z) at c.store_height.ensures))
    c.commit_result.ensures
