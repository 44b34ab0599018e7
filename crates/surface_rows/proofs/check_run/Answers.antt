-- `surface_rows::check_run` meets its contract. Assumes nothing.
use borrow.Author.Rules.{rules}
use Rattle.surface_rows.proofs.check_run.Goals as goal

pub returns : goal.returns
returns c = rw (← c.vertex_count-n.ensures, ← c.sweep_rows_short-short.ensures) c.check_heights.ensures
