-- `heights::check_ten` meets its contract. Assumes nothing.
use Rattle.std.proofs.lemmas.Result.{err_from_is_err_and}
use Rattle.std.specs.Prelude.{Err}
use mathlib.Core.Path.{sym, ◌∙◌, ap}
use Rattle.heights.proofs.HeightsLaws.{ten-refused, ten-outside, ten-accepted}
use Rattle.heights.proofs.check_ten.Goals as goal

pub returns-then-outside : goal.returns-then-outside
returns-then-outside c = ap Err c.of_call.ensures ∙ ten-outside _ _ _ _ (sym c.check_range.ensures ∙ c.in_ok-check_range.was) c.if-outside.true

pub returns-in_err-check_range : goal.returns-in_err-check_range
returns-in_err-check_range c =
    let p = err_from_is_err_and c.from_residual.result c.from_residual.ensures.1 in
    rw (p.1, p.2) (ten-refused _ _ _ _ _ (sym c.check_range.ensures ∙ c.in_err-check_range.was))

pub returns : goal.returns
returns c = ten-accepted _ _ _ _ (sym c.check_range.ensures ∙ c.in_ok-check_range.was) c.if-outside.false
