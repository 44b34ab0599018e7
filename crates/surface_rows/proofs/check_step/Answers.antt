-- `surface_rows::check_step` meets its contract. Assumes nothing.
use mir.Facts.{to_z-of_z}
use Rattle.surface_rows.proofs.Stored.{point-tested}
use borrow.Author.Rules.{rules}
use mir.Syntax.{w32}
use Rattle.surface_rows.proofs.check_step.Goals as goal

pub returns : goal.returns
returns c =
    let w = c.struct_told-1.given in
    point-tested (to_z-of_z {w = w32} (record { sfits = w.0.1 })) (to_z-of_z {w = w32} (record { sfits = w.1.0.1 })) (to_z-of_z c.ranges.z) _ _ _ _ _ _
    c.vertex_count-n.ensures c.sweep_rows_short-short.ensures c.check_heights.ensures
