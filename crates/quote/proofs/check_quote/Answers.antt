-- `quote::check_quote` meets its contract. Assumes nothing.
use borrow.Author.Tests.{not-true, not-false}
use Rattle.std.specs.Prelude.{Err}
use mathlib.Core.Path.{◌∙◌, sym, ap}
use Rattle.quote.specs.QuoteLaws.{quote-then-stale, quote-then-same}
use Rattle.quote.proofs.check_quote.Goals as goal

pub returns-then-not-is_same : goal.returns-then-not-is_same
returns-then-not-is_same c = ap Err c.of_call.ensures ∙ sym (quote-then-stale _ _ _ (sym c.is_same.ensures ∙ not-true _ c.if-not-is_same.true-raw))

pub returns : goal.returns
returns c =
    c.check_changes.ensures
    ∙ sym (quote-then-same _ _ _ (sym c.is_same.ensures ∙ not-false _ c.if-not-is_same.false-raw))
