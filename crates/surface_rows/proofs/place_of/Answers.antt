-- `surface_rows::place_of` meets its contract. Assumes nothing.
use mathlib.Core.Path.{sym, ap}
use Rattle.surface.specs.StoredHeights.{place_of}
use borrow.Author.Rules.{rules}
use Rattle.surface_rows.proofs.place_of.Goals as goal

pub returns-in-Ok : goal.returns-in-Ok
unfolding place_of
returns-in-Ok c = sym (ap (place_of _) c.in-Ok.is)

pub returns-in-Err : goal.returns-in-Err
unfolding place_of
returns-in-Err c = sym (ap (place_of c.args.n) c.in-Err.is)
