-- The loop of `listing_text::writing::put_bytes`.
use Rattle.std.specs.Prelude.{take}
use Rattle.listing_text.specs.Decimal.{Appended}
use Rattle.listing_text.proofs.writing.put_bytes.Given as goal

abbrev pub invariant-loop-byte : goal.invariant-loop-byte
invariant-loop-byte l = Appended l.initial.row l.at (take l.byte-index l.bytes) l.row l.place
