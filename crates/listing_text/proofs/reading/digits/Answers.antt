-- `listing_text::reading::digits` meets its contract. The invariant: the bytes passed are digits, with the value kept. Assumes nothing.
use Rattle.std.specs.Prelude.{◌≡◌, ◌<◌, length}
use Rattle.std.proofs.Common.{sym, ◌∙◌, ap, rules}
use Rattle.listing_text.specs.ReadingParts.{saturated}
use Rattle.listing_text.proofs.Numbers.{no-digits, counted_start, counted-none, counted_next, counted-end}
use Rattle.listing_text.proofs.reading.digits.Goals as goal

pub returns-then-is_empty : goal.returns-then-is_empty
returns-then-is_empty c =
    let empty : length c.args.field.now ≡ 0 = search rules in
    ap saturated (sym (no-digits c.args.field.now empty))

pub loop-b-init : goal.loop-b-init
loop-b-init c =
    let some : 0 < length c.args.field.now = search rules in
    counted_start c.args.field.now some

pub returns-then-not-is_ascii_digit : goal.returns-then-not-is_ascii_digit
returns-then-not-is_ascii_digit c = counted-none c.loop-b.invariant c.loop-b-test.true (sym c.is_ascii_digit.ensures.value ∙ c.if-not-is_ascii_digit.true)

pub loop-b-preserved : goal.loop-b-preserved
loop-b-preserved c =
    counted_next c.loop-b.invariant c.loop-b-test.true (sym c.is_ascii_digit.ensures.value ∙ c.if-not-is_ascii_digit.false) (search rules)

pub returns : goal.returns
returns c = counted-end c.loop-b.invariant c.loop-b-test.false
