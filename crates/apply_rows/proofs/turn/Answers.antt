-- `apply_rows::turn` meets its contract. Assumes nothing.
use mathlib.Core.Path.{refl}
use native.Mathlib.Omega.{arith}
use Rattle.apply_rows.proofs.TurnRows.{current-there, new-fits, corner-ready, turned-row}
use Rattle.apply_rows.proofs.turn.Goals as goal

pub beside-d-requires : goal.beside-d-requires
beside-d-requires c = current-there c.requires

pub overflow_mul-new : goal.overflow_mul-new
overflow_mul-new c = record { fits = omega (arith, new-fits c.requires) }

pub overflow_add-new : goal.overflow_add-new
overflow_add-new c = record { fits = omega (arith, new-fits c.requires) }

pub close_corner-after-requires : goal.close_corner-after-requires
close_corner-after-requires c = corner-ready c.requires c.beside-d.ensures c.face_edge-at.ensures

pub returns : goal.returns
returns c = turned-row c.requires c.beside-d.ensures c.face_edge-at.ensures _ _ _ _ c.close_corner-after.ensures refl
