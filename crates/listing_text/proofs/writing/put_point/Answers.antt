-- `listing_text::writing::put_point` meets its contract. Assumes nothing.
use Rattle.listing_text.specs.Listing.{point_line}
use Rattle.listing_text.specs.RowLaws.{appended_then}
use Rattle.listing_text.proofs.writing.put_point.Goals as goal

pub returns : goal.returns
unfolding point_line
returns c =
    appended_then (appended_then (appended_then (appended_then (appended_then (appended_then
    c.put-place.ensures
    c.put_field-place.ensures)
    c.put_field-place-2.ensures)
    c.put_field-place-3.ensures)
    c.put_field-place-4.ensures)
    c.put_field-place-5.ensures)
    c.put.ensures
