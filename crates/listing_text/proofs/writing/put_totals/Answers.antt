-- `listing_text::writing::put_totals` meets its contract. Assumes nothing.
use borrow.Author.Rules.{rules}
use Rattle.listing_text.specs.Listing.{totals_line}
use Rattle.listing_text.specs.RowLaws.{appended_then}
use Rattle.listing_text.proofs.Signs.{handed}
use Rattle.listing_text.proofs.writing.put_totals.Goals as goal

pub returns : goal.returns
unfolding totals_line
returns c =
    appended_then (appended_then (appended_then (appended_then (appended_then (appended_then (appended_then (appended_then (appended_then
    c.put-place.ensures
    c.put_field-place.ensures)
    c.put_field-place-2.ensures)
    c.put_field-place-3.ensures)
    c.put-place-2.ensures)
    (handed {z = c.args.line.doubled_area} (search rules)
    c.put_signed-place.ensures))
    c.put_field-place-4.ensures)
    c.put_field-place-5.ensures)
    c.put_field-place-6.ensures)
    c.put.ensures
