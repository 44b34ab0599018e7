-- `fithmoul::fithmoul_area_total` meets its contract. Assumes nothing.
use mathlib.Core.Path.{◌∙◌, ap}
use Rattle.fithmoul.specs.Results.{area_total_result}
use borrow.Author.Rules.{rules}
use Rattle.fithmoul.proofs.fithmoul_area_total.Goals as goal

pub returns : goal.returns
returns c = c.from.ensures ∙ ap area_total_result c.area_total.ensures
