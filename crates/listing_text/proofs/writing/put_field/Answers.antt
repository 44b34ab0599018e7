-- `listing_text::writing::put_field` meets its contract. Assumes nothing.
use Rattle.listing_text.specs.RowLaws.{appended_then}
use Rattle.listing_text.proofs.writing.put_field.Goals as goal

pub returns : goal.returns
returns c = appended_then c.put-place.ensures c.put_number.ensures
