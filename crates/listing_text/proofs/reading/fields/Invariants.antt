-- The loop of `listing_text::reading::fields`.
use Rattle.std.specs.Prelude.{length}
use Rattle.listing_text.proofs.Fields.{Filled}
use Rattle.listing_text.proofs.reading.fields.Given as goal

abbrev pub invariant-loop-stored : goal.invariant-loop-stored
invariant-loop-stored l = Filled l.line (length l.initial.stored-items) l.stored-items l.stored-index l.rest
