-- `fithmoul::fithmoul_finish` meets its contract. Assumes nothing.
use mathlib.Core.Path.{sym, ◌∙◌}
use Rattle.surface.proofs.SurfaceLawsFacts.{finish-refused, finish-own}
use Rattle.fithmoul.specs.Exported.{finish-exported}
use borrow.Author.Rules.{rules}
use Rattle.fithmoul.proofs.fithmoul_finish.Goals as goal

pub returns-in-Err : goal.returns-in-Err
returns-in-Err c =
    finish-exported (sym (finish-refused _ _ _ (sym c.check_finish-checked.ensures ∙ c.in-Err.is))) c.from.ensures

pub returns : goal.returns
returns c =
    finish-exported (c.finish-answer.ensures ∙ sym (finish-own _ _ _ (sym c.check_finish-checked.ensures ∙ c.in_default.is)))
    c.from-2.ensures
