-- `listing_text::writing::put_signed` meets its contract. Assumes nothing.
use Rattle.listing_text.proofs.Signs.{negative-digits}
use Rattle.listing_text.proofs.writing.put_signed.Goals as goal

pub returns-then-n-lt0 : goal.returns-then-n-lt0
returns-then-n-lt0 c =
    negative-digits c.ranges.n c.if-n-lt0.true c.put-place.ensures c.unsigned_abs.ensures.value c.put_number.ensures
