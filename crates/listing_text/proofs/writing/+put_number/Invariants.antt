-- The measure of `listing_text::writing::put_number`: the number.
use Rattle.listing_text.proofs.writing.+put_number.Given as goal

abbrev pub decreases-put_number : goal.decreases-put_number
decreases-put_number l = l.n
