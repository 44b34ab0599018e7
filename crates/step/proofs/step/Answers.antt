-- `step::step` meets its contract: a refusal of the checks leaves every row as it was, and an accepted call builds the ring, makes its step and clears the rows. Assumes nothing.
use borrow.Author.Rules.{rules}
use Rattle.step.proofs.CallRows.{once-accepted, refused-outcome, accepted-outcome}
use Rattle.step.proofs.step.Goals as goal

pub returns-in-Err : goal.returns-in-Err
returns-in-Err c = refused-outcome _ _ _ _ _ _ c.in-Err.is c.check_step-checked.ensures

pub sweep_once-progress-requires : goal.sweep_once-progress-requires
sweep_once-progress-requires c = once-accepted c.in_default.is c.check_step-checked.ensures

pub returns : goal.returns
returns c =
    accepted-outcome _ _ _ _ _ _ c.in_default.is c.check_step-checked.ensures
    c.sweep_once-progress.ensures (record { positions = c.sweep_once-progress.auto.positions; outs = c.sweep_once-progress.auto.outs; halves = c.sweep_once-progress.auto.halves; faces = c.sweep_once-progress.auto.faces }) (c.answer_of.ensures _)
