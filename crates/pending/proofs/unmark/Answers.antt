-- `pending::unmark` meets its contract. Assumes nothing.
use mathlib.Core.Path.{refl}
use Rattle.pending.proofs.MarkLaws.{one_shift, unmark-fits}
use Rattle.pending.proofs.unmark.Goals as goal

pub overflow_sub-pending : goal.overflow_sub-pending
overflow_sub-pending c = let x = c.args.x in rw (one_shift x, c.word_at-at.ensures) (unmark-fits _ x c.requires.1)

pub returns : goal.returns
returns c = rw (one_shift c.args.x, c.word_at-at.ensures) refl
