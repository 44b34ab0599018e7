-- `ask_rows::check_ask` meets its contract. Assumes nothing.
use Rattle.std.proofs.lemmas.Result.{err_from_is_err_and}
use mathlib.Core.Path.{sym, ◌∙◌}
use mir.Facts.{to_z-of_z}
use Rattle.ask.proofs.AskLaws.{ask-refused, ask-changes}
use Rattle.ask_rows.proofs.check_ask.Goals as goal

pub returns-in_err-check_point : goal.returns-in_err-check_point
returns-in_err-check_point c =
    let z = to_z-of_z c.ranges.z in
    let p = err_from_is_err_and c.from_residual.result c.from_residual.ensures.1 in
    rw (p.1, p.2) (sym (ask-refused _ _ _ _ _ _ _ _ _ c.ring_rows_short-short.ensures
    (sym (rw z at c.check_point.ensures) ∙ c.in_err-check_point.was)))

pub returns : goal.returns
returns c =
    let z = to_z-of_z c.ranges.z in
    c.check_changes.ensures
    ∙ sym (ask-changes _ _ _ _ _ _ _ _ _ c.ring_rows_short-short.ensures
    (sym (rw z at c.check_point.ensures) ∙ c.in_ok-check_point.was))
