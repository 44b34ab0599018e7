-- `pending::mark` meets its contract. Assumes nothing.
use mathlib.Core.Path.{refl}
use Rattle.pending.proofs.MarkLaws.{one_shift, mark-fits}
use Rattle.pending.proofs.mark.Goals as goal

pub overflow_add-pending : goal.overflow_add-pending
overflow_add-pending c =
    let x = c.args.x in let w = c.word_at-at.ensures in
    record { fits = rw (one_shift x, w) (mark-fits _ x (c.slice_known-1.given _).fits c.requires.1) }

pub returns : goal.returns
returns c = rw (one_shift c.args.x, c.word_at-at.ensures) refl
