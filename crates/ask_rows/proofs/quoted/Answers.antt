-- `ask_rows::quoted` meets its contract. Assumes nothing.
use mathlib.Core.Path.{refl}
use mir.Syntax.{w32}
use mir.Facts.{to_z-of_z}
use Rattle.ask.specs.Ask.{quote_from}
use borrow.Author.Rules.{rules}
use Rattle.ask_rows.proofs.quoted.Goals as goal

pub returns : goal.returns
unfolding quote_from
returns c =
    let px = to_z-of_z {w = w32} {z = c.args.point.x} (search rules) in
    let py = to_z-of_z {w = w32} {z = c.args.point.y} (search rules) in
    rw (px, py, to_z-of_z {w = w32} c.ranges.z, c.fate_number.ensures, c.faces_of.ensures) refl
