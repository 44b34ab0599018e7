-- `bulk_load_rows::placed_after` meets its contract. Assumes nothing.
use mathlib.Core.Path.{◌∙◌, ap}
use borrow.Author.Rules.{rules}
use Rattle.finish.specs.Finished.{Finished}
use Rattle.finish.specs.declared.FinishAnswer.{FinishAnswer}
use Rattle.bulk_load_rows.specs.RestRows.{placed-accepted, placed-refused}
use Rattle.bulk_load_rows.proofs.placed_after.Goals as goal

pub overflow_add-result : goal.overflow_add-result
overflow_add-result c = record { fits = c.requires _ c.in-Err.is }

pub returns-in-Ok : goal.returns-in-Ok
returns-in-Ok c =
    let F : Finished → FinishAnswer = λ f. record { counts = c.args.answer.counts; finished = f } in
    ap F c.in-Ok.is ∙ placed-accepted _ _ _ c.in-Ok.is

pub returns-in-Err : goal.returns-in-Err
returns-in-Err c = placed-refused _ _ _ c.in-Err.is
