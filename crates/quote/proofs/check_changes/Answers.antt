-- `quote::check_changes` meets its contract. Assumes nothing.
use Rattle.std.specs.Prelude.{Err}
use mathlib.Core.Path.{◌∙◌, sym, ap}
use Rattle.quote.specs.QuoteLaws.{changes-at-end, changes-not-at-end}
use Rattle.quote.proofs.check_changes.Goals as goal

pub returns-then-changes-eq4294967295 : goal.returns-then-changes-eq4294967295
returns-then-changes-eq4294967295 c = ap Err c.of_call.ensures ∙ sym (changes-at-end c.if-changes-eq4294967295.true)

pub returns : goal.returns
returns c = sym (changes-not-at-end c.if-changes-eq4294967295.false)
