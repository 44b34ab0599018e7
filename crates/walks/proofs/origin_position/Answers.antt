-- `walks::origin_position` meets its contract. Assumes nothing.
use mathlib.Core.Path.{◌∙◌, ap}
use Rattle.dcel.specs.Rows.{position_of}
use Rattle.walks.proofs.origin_position.Goals as goal

pub returns : goal.returns
returns c = c.position.ensures ∙ ap (position_of _) c.origin.ensures
