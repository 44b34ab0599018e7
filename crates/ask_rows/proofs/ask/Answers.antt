-- `ask_rows::ask` meets its contract. Assumes nothing.
use Rattle.std.proofs.lemmas.Result.{err_from_is_err_and}
use mathlib.Core.Path.{sym, ◌∙◌}
use mir.Facts.{to_z-of_z}
use Rattle.ask.proofs.AskLaws.{ask-start, asked-refused, asked-quoted}
use Rattle.ask_rows.proofs.ask.Goals as goal

pub quote_now-requires : goal.quote_now-requires
quote_now-requires c =
    let z = to_z-of_z c.ranges.z in
    record { outs = _; start = ask-start _ _ _ _ _ _ _ _ _ (sym (rw z at c.check_ask.ensures) ∙ c.in_ok-check_ask.was) }

pub returns-in_err-check_ask : goal.returns-in_err-check_ask
returns-in_err-check_ask c =
    let z = to_z-of_z c.ranges.z in
    let p = err_from_is_err_and c.from_residual.result c.from_residual.ensures.1 in
    rw (p.1, p.2) (asked-refused _ (sym (rw z at c.check_ask.ensures) ∙ c.in_err-check_ask.was))

pub returns : goal.returns
returns c =
    let z = to_z-of_z c.ranges.z in
    let K = sym (rw z at c.check_ask.ensures) ∙ c.in_ok-check_ask.was in
    asked-quoted K (rw z at (c.quote_now.ensures _ (ask-start _ _ _ _ _ _ _ _ _ K)))
