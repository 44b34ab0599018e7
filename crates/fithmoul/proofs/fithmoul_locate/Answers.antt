-- `fithmoul::fithmoul_locate` meets its contract. Assumes nothing.
use mathlib.Core.Path.{sym, ◌∙◌}
use Rattle.surface.proofs.SurfaceLawsFacts.{locate-refused, locate-own}
use Rattle.fithmoul.specs.Exported.{locate-exported}
use borrow.Author.Rules.{rules}
use Rattle.fithmoul.proofs.fithmoul_locate.Goals as goal

pub returns-in-Err : goal.returns-in-Err
returns-in-Err c =
    locate-exported (sym (locate-refused _ _ _ _ _ (sym c.check_locate-checked.ensures ∙ c.in-Err.is))) c.from.ensures

pub returns : goal.returns
returns c =
    locate-exported (c.locate-located.ensures ∙ sym (locate-own _ _ _ _ _ (sym c.check_locate-checked.ensures ∙ c.in_default.is)))
    c.from-2.ensures
