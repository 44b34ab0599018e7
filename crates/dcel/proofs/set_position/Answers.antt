-- `dcel::set_position` meets its contract. Assumes nothing.
use mir.Facts.{to_z-of_z}
use Rattle.dcel.proofs.Rows.{store-position}
use mir.Syntax.{w32}
use Rattle.dcel.proofs.set_position.Goals as goal

pub returns : goal.returns
returns c =
    let w = c.struct_told-2-1.given in
    store-position _ _ c.args.point _ _ c.requires (to_z-of_z {w = w32} (record { sfits = w.0.1 })) (to_z-of_z {w = w32} (record { sfits = w.1.0.1 }))
