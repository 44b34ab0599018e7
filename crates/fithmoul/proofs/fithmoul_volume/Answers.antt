-- `fithmoul::fithmoul_volume` meets its contract. Assumes nothing.
use mathlib.Core.Path.{◌∙◌, ap}
use mir.Facts.{to_z-of_z}
use Rattle.fithmoul.specs.Results.{volume_result}
use borrow.Author.Rules.{rules}
use Rattle.fithmoul.proofs.fithmoul_volume.Goals as goal

pub returns : goal.returns
returns c =
    c.from.ensures ∙ ap volume_result (rw (to_z-of_z c.ranges.level) at c.volume.ensures)
