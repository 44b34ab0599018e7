-- `run::run` meets its contract. Assumes nothing.
use borrow.Author.Rules.{rules}
use mathlib.Core.Path.{sym, ◌∙◌}
use Rattle.sweep.proofs.RunLaws.{run_ran}
use Rattle.steps.specs.StepsReady.{run-checks}
use Rattle.run.proofs.RunDone.{refused-run}
use Rattle.run.proofs.run.Goals as goal

pub run_accepted-requires : goal.run_accepted-requires
run_accepted-requires c = sym (run-checks _ c.answers_short-short.ensures c.check_sweep-checked.ensures) ∙ c.in_default.is

pub returns-in-Err : goal.returns-in-Err
returns-in-Err c = run_ran _ _ (refused-run _ _ (sym c.in-Err.is ∙ run-checks _ c.answers_short-short.ensures c.check_sweep-checked.ensures))

pub returns : goal.returns
returns c = run_ran _ _ c.run_accepted.ensures
