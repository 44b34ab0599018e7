-- `surface_rows::is_made` meets its contract. Assumes nothing.
use mathlib.Core.Path.{sym, ap}
use Rattle.surface.specs.StoredHeights.{is_made}
use borrow.Author.Rules.{rules}
use Rattle.surface_rows.proofs.is_made.Goals as goal

pub returns-in-Ok : goal.returns-in-Ok
unfolding is_made
returns-in-Ok c = sym (ap is_made c.in-Ok.is)

pub returns-in-Err : goal.returns-in-Err
unfolding is_made
returns-in-Err c = sym (ap is_made c.in-Err.is)
