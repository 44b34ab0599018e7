-- `math::is_behind_edge` meets its contract. Assumes nothing.
use mathlib.Core.Path.{◌∙◌, ap}
use Rattle.math.specs.Determinant.{is_behind}
use Rattle.math.proofs.is_behind_edge.Goals as goal

pub returns : goal.returns
returns c = c.is_behind_edge.ensures ∙ ap is_behind c.project_point.ensures
