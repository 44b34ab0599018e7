-- `listing_text::writing::put_number` meets its contract: a number has the digits of its tenth and then its last one. Assumes nothing.
use Rattle.std.proofs.Common.{refl}
use Rattle.listing_text.proofs.Digits.{last-digit, more-digits}
use Rattle.listing_text.proofs.writing.+put_number.Goals as goal

pub returns-then-n-lt10 : goal.returns-then-n-lt10
returns-then-n-lt10 t c = last-digit _ refl c.if-n-lt10.true c.put.ensures

pub returns : goal.returns
returns t c = more-digits _ refl c.if-n-lt10.false c.put_number-place.ensures c.put-2.ensures
