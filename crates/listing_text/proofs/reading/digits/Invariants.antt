-- The loop of `listing_text::reading::digits`.
use Rattle.listing_text.proofs.Numbers.{Counted}
use Rattle.listing_text.proofs.reading.digits.Given as goal

abbrev pub invariant-loop-b : goal.invariant-loop-b
invariant-loop-b l = Counted l.field l.value l.b-index
