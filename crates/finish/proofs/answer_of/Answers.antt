-- `finish::answer_of` meets its contract. Assumes nothing.
use Rattle.finish.proofs.Laws.{answer-full, answer-done}
use Rattle.finish.proofs.answer_of.Goals as goal

pub returns-then-ended : goal.returns-then-ended
returns-then-ended c o h a = rw c.at.ensures (answer-full c.args.ended _ o h a c.if-ended.true)

pub returns : goal.returns
returns c o h a = answer-done c.args.ended _ o h a c.if-ended.false
