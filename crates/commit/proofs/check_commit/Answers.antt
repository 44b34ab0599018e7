-- `commit::check_commit` meets its contract. Assumes nothing.
use Rattle.std.proofs.lemmas.Result.{err_from_is_err_and}
use mathlib.Core.Path.{sym, ◌∙◌}
use mir.Facts.{to_z-of_z}
use Rattle.ask.proofs.AskLaws.{point-accepts}
use Rattle.commit.specs.CommitParts.{commit-point-refused, commit-point-accepted}
use borrow.Author.Rules.{rules}
use Rattle.commit.proofs.check_commit.Goals as goal

pub quote_now-present-requires : goal.quote_now-present-requires
quote_now-present-requires c =
    let z = to_z-of_z c.ranges.z in
    record { outs = _; start = (point-accepts _ _ _ _ _ _ (sym (rw z at c.check_point.ensures) ∙ c.in_ok-check_point.was)).1 }

pub returns-in_err-check_point : goal.returns-in_err-check_point
returns-in_err-check_point c =
    let z = to_z-of_z c.ranges.z in
    let p = err_from_is_err_and c.from_residual.result c.from_residual.ensures.1 in
    rw (p.1, p.2) (sym (commit-point-refused _ _ _ _ _ _ _ _ _ _ _ c.sweep_rows_short-short.ensures
    (sym (rw z at c.check_point.ensures) ∙ c.in_err-check_point.was)))

pub returns : goal.returns
returns c =
    let z = to_z-of_z c.ranges.z in
    let k = sym (rw z at c.check_point.ensures) ∙ c.in_ok-check_point.was in
    let present = rw z at (c.quote_now-present.ensures _ (point-accepts _ _ _ _ _ _ k).1) in
    c.check_quote.ensures ∙ sym (commit-point-accepted _ _ _ _ _ _ _ _ _ _ _ c.sweep_rows_short-short.ensures k present)
