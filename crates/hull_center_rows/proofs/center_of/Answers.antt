-- `hull_center_rows::center_of` meets its contract. Assumes nothing.
use mathlib.Core.Path.{◌∙◌, ap, ap₂}
use borrow.Author.Rules.{rules}
use lib.Ieee.{Float}
use mir.Facts.{to_z-of_z}
use mir.Syntax.{w64}
use Rattle.hull_center.specs.HullCenter.{center_coordinate, center_of}
use Rattle.hull_center_rows.proofs.center_of.Goals as goal

pub returns : goal.returns
unfolding center_of
returns c =
    ap₂ (λ (x y : Float). record { x = x; y = y })
    (c.center_coordinate.ensures ∙ ap center_coordinate (to_z-of_z {w = w64} (search rules)))
    (c.center_coordinate-2.ensures ∙ ap center_coordinate (to_z-of_z {w = w64} (search rules)))
