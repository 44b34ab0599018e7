-- `stages::steps` meets its contract. Assumes nothing.
use borrow.Author.Rules.{rules}
use mathlib.Core.Path.{sym, ◌∙◌}
use Rattle.steps.specs.StepsReady.{run-checks}
use Rattle.stages.proofs.StagesRows.{stepped-refused, stepped-accepted}
use Rattle.stages.proofs.steps.Goals as goal

pub steps_accepted-requires : goal.steps_accepted-requires
steps_accepted-requires c = sym (run-checks _ c.answers_short-short.ensures c.check_sweep.ensures) ∙ c.in-Ok.is

pub returns-in-Err : goal.returns-in-Err
returns-in-Err c = stepped-refused _ _ (sym c.in-Err.is ∙ run-checks _ c.answers_short-short.ensures c.check_sweep.ensures)

pub returns-in-Ok : goal.returns-in-Ok
returns-in-Ok c = c.steps_accepted.ensures ∙ stepped-accepted _ (sym (run-checks _ c.answers_short-short.ensures c.check_sweep.ensures) ∙ c.in-Ok.is)
