-- `listing_text::writing::put_refusal` meets its contract. Assumes nothing.
use Rattle.listing_text.specs.Listing.{refusal_line}
use Rattle.listing_text.specs.RowLaws.{appended_then}
use Rattle.listing_text.proofs.writing.put_refusal.Goals as goal

pub returns : goal.returns
unfolding refusal_line
returns c =
    appended_then (appended_then (appended_then c.put-first.ensures c.put_field-second.ensures) c.put_field-third.ensures) c.put.ensures
