-- `step::check_step` meets its contract. Assumes nothing.
use borrow.Author.Rules.{rules}
use mir.Facts.{to_z-of_z}
use Rattle.step.proofs.CallRows.{point-checked}
use mir.Syntax.{w32}
use Rattle.step.proofs.check_step.Goals as goal

pub returns : goal.returns
returns c =
    let w = c.struct_told-1.given in
    point-checked (to_z-of_z {w = w32} (record { sfits = w.0.1 })) (to_z-of_z {w = w32} (record { sfits = w.1.0.1 })) _ _ _ _ _ _ _ c.check_sweep.ensures
