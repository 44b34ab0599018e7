-- `surface_rows::check_locate` meets its contract. Assumes nothing.
use borrow.Author.Rules.{rules}
use Rattle.surface_rows.proofs.check_locate.Goals as goal

pub returns : goal.returns
returns c = rw (← c.ring_rows_short-short.ensures) c.check_heights.ensures
