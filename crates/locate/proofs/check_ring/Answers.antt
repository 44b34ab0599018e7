-- `locate::check_ring` meets its contract. Assumes nothing.
use borrow.Author.Rules.{rules}
use borrow.Author.Tests.{not-true, not-false}
use Rattle.std.specs.Prelude.{Err}
use mathlib.Core.Path.{sym, ◌∙◌, ap}
use Rattle.locate.proofs.Ring.{no-center, met-center, angled, not-strict, strict}
use Rattle.locate.proofs.check_ring.Goals as goal

pub returns-then-not-validate_center : goal.returns-then-not-validate_center
returns-then-not-validate_center c = ap Err c.of_call.ensures ∙ no-center _ _ _ _ _ _ (sym c.validate_center.ensures ∙ not-true _ c.if-not-validate_center.true-raw)

pub meets_center-requires : goal.meets_center-requires
meets_center-requires c = c.requires.rows

pub returns-then-meets_center : goal.returns-then-meets_center
returns-then-meets_center c = ap Err c.of_call-then-meets_center.ensures ∙ met-center _ _ _ _ _ _ (sym c.meets_center.ensures ∙ c.if-meets_center.true)

pub is_strict-requires : goal.is_strict-requires
is_strict-requires c =
    angled c.requires _ _ (sym c.validate_center.ensures ∙ not-false _ c.if-not-validate_center.false-raw)
    (sym c.meets_center.ensures ∙ c.if-meets_center.false)

pub returns-then-not-is_strict : goal.returns-then-not-is_strict
returns-then-not-is_strict c =
    ap Err c.of_call-then-not-is_strict.ensures
    ∙ not-strict _ _ _ _ _ _ (sym c.validate_center.ensures ∙ not-false _ c.if-not-validate_center.false-raw)
    (sym c.meets_center.ensures ∙ c.if-meets_center.false) (sym c.is_strict.ensures ∙ not-true _ c.if-not-is_strict.true-raw)

pub returns : goal.returns
returns c =
    strict _ _ _ _ _ _ (sym c.validate_center.ensures ∙ not-false _ c.if-not-validate_center.false-raw)
    (sym c.meets_center.ensures ∙ c.if-meets_center.false) (sym c.is_strict.ensures ∙ not-false _ c.if-not-is_strict.false-raw)
