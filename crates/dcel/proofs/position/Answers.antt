-- `dcel::position` meets its contract. Assumes nothing.
use mathlib.Core.Path.{ap₂}
use lib.IntN.{ℤ}
use mir.Facts.{to_z-of_z}
use mir.Syntax.{w32}
use Rattle.dcel.specs.Rows.{position_of}
use Rattle.dcel.proofs.position.Goals as goal

pub returns : goal.returns
unfolding position_of
returns c =
    ap₂ (λ (x y : ℤ). record { x = x; y = y }) (to_z-of_z {w = w32} (record { sfits = c.result-1.given })) (to_z-of_z {w = w32} (record { sfits = c.result-2-1.given }))
