-- `listing_text::reading::lines` meets its contract. The invariant: the lines passed are right, and their numbers are stored.
-- Assumes nothing.
use Rattle.std.specs.Prelude.{◌+◌, ◌≤◌, length}
use Rattle.std.proofs.Common.{rules}
use Rattle.listing_text.proofs.Lines.{taken_start, taken-over, taken-few, taken-all, taken-wrong, taken_next, stop_is, line-most, line-room}
use Rattle.listing_text.proofs.reading.lines.Goals as goal

pub loop-place-init : goal.loop-place-init
loop-place-init c = taken_start

pub returns-then-number-ge400 : goal.returns-then-number-ge400
returns-then-number-ge400 c = taken-over c.loop-place.invariant c.loop-place-test.true c.if-number-ge400.true

pub overflow_add-stop : goal.overflow_add-stop
overflow_add-stop c =
    let most : c.loop-place.place + c.end.result ≤ length c.args.text.now = line-most _ c.loop-place-test.true (stop_is _ _ c.end.ensures) in
    search rules

pub overflow_add-next : goal.overflow_add-next
overflow_add-next c =
    let room : c.loop-place.stored + c.count.result ≤ 802 = line-room c.loop-place.invariant c.if-number-ge400.false c.count.ensures in
    search rules

pub slice_bounds-line-end : goal.slice_bounds-line-end
slice_bounds-line-end c =
    let most : c.loop-place.place + c.end.result ≤ length c.args.text.now = line-most _ c.loop-place-test.true (stop_is _ _ c.end.ensures) in
    search rules

pub offset_bounds-numbers-stored : goal.offset_bounds-numbers-stored
offset_bounds-numbers-stored c =
    let room : c.loop-place.stored + c.count.result ≤ 802 = line-room c.loop-place.invariant c.if-number-ge400.false c.count.ensures in
    search rules

pub slice_bounds-line-end-in-loop-place : goal.slice_bounds-line-end-in-loop-place
slice_bounds-line-end-in-loop-place c =
    let room : c.loop-place.stored + c.count.result ≤ 802 = line-room c.loop-place.invariant c.if-number-ge400.false c.count.ensures in
    search rules

pub returns-then-not-line : goal.returns-then-not-line
returns-then-not-line c =
    taken-wrong c.loop-place.invariant c.loop-place-test.true (stop_is _ _ c.end.ensures) c.if-number-ge400.false
    c.letter.ensures c.count.ensures c.told-numbers c.line.ensures c.if-not-line.true

pub loop-place-preserved : goal.loop-place-preserved
loop-place-preserved c =
    taken_next c.loop-place.invariant c.loop-place-test.true (stop_is _ _ c.end.ensures) c.if-number-ge400.false
    c.letter.ensures c.count.ensures c.told-numbers c.line.ensures c.if-not-line.false

pub returns-then-number-lt3 : goal.returns-then-number-lt3
returns-then-number-lt3 c = taken-few c.loop-place.invariant c.loop-place-test.false c.if-number-lt3.true

pub returns : goal.returns
returns c = taken-all c.loop-place.invariant c.loop-place-test.false c.if-number-lt3.false
