-- `listing_text::reading::line` meets its contract: the first field is the letter, and the others are the numbers. Assumes nothing.
use Rattle.std.specs.Prelude.{◌<◌, length}
use Rattle.std.proofs.Common.{rules}
use Rattle.listing_text.proofs.Fields.{letter-in, line-length, line_other, line-stored}
use Rattle.listing_text.proofs.reading.line.Goals.{then-end-ne1-via-then-end-ne1, then-end-ne1-via-else-end-ne1+then-bytes-letter}
use Rattle.listing_text.proofs.reading.line.Goals as goal

pub bounds-bytes-0 : goal.bounds-bytes-0
bounds-bytes-0 c = letter-in _ c.end.ensures c.if-end-ne1.false

pub returns-then-end-ne1 : goal.returns-then-end-ne1
returns-then-end-ne1 c =
    elim c.then-end-ne1.branch [
      | then-end-ne1-via-then-end-ne1 w ↦ line-length _ c.end.ensures _ _ w.if-end-ne1.true
      | then-end-ne1-via-else-end-ne1+then-bytes-letter w ↦ line_other _ c.end.ensures _ _ w.if-end-ne1.false w.if-bytes-letter.true
    ]

pub slice_bounds-fields-count : goal.slice_bounds-fields-count
slice_bounds-fields-count c = letter-in _ c.end.ensures c.if-end-ne1.false

pub slice_bounds-fields-start : goal.slice_bounds-fields-start
slice_bounds-fields-start c = let some : 0 < length c.args.bytes.now = letter-in _ c.end.ensures c.if-end-ne1.false in search rules

pub returns : goal.returns
returns c = line-stored _ c.end.ensures _ _ c.if-end-ne1.false c.if-bytes-letter.false c.fields.ensures
