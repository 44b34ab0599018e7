-- `hull_center_rows::center` meets its contract. Assumes nothing.
use mathlib.Core.Path.{◌∙◌, ap}
use Rattle.hull_center.specs.HullCenter.{center_of, hull_center}
use Rattle.hull_center_rows.proofs.center.Goals as goal

pub center_of-requires : goal.center_of-requires
center_of-requires c = rw c.last_three.ensures c.requires.small

pub returns : goal.returns
unfolding hull_center
returns c = c.center_of.ensures ∙ ap center_of c.last_three.ensures
