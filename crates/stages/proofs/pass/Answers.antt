-- `stages::pass` meets its contract. Assumes nothing.
use borrow.Author.Rules.{rules}
use mathlib.Core.Path.{sym, ◌∙◌}
use Rattle.finish.specs.FinishRows.{accepted-ready}
use Rattle.stages.proofs.StagesRows.{start-ready, passed-refused, passed-accepted}
use Rattle.stages.proofs.pass.Goals as goal

pub fix_convexity-requires : goal.fix_convexity-requires
fix_convexity-requires c = start-ready _ (accepted-ready _ _ _ (sym c.in-Ok.is ∙ c.check_seed.ensures))

pub returns-in-Err : goal.returns-in-Err
returns-in-Err c = passed-refused _ _ _ _ (sym c.in-Err.is ∙ c.check_seed.ensures)

pub returns-in-Ok : goal.returns-in-Ok
returns-in-Ok c = c.fix_convexity.ensures ∙ passed-accepted _ _ _ (sym c.in-Ok.is ∙ c.check_seed.ensures)
