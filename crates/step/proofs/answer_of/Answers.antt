-- `step::answer_of` meets its contract. Assumes nothing.
use Rattle.step.proofs.CallRows.{answer-full, answer-done}
use Rattle.step.proofs.answer_of.Goals as goal

pub returns-then-progress : goal.returns-then-progress
returns-then-progress c m = rw c.at.ensures (answer-full c.args.progress _ m c.if-progress.true)

pub returns : goal.returns
returns c m = answer-done c.args.progress _ m c.if-progress.false
