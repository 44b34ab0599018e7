-- `listing_text::writing::put_bytes` meets its contract. The invariant: the bytes passed are appended. Assumes nothing.
use Rattle.listing_text.specs.RowLaws.{appended-next, appended-all}
use Rattle.listing_text.proofs.writing.put_bytes.Goals as goal

pub loop-byte-preserved : goal.loop-byte-preserved
loop-byte-preserved c = appended-next _ _ c.loop-byte.invariant c.loop-byte-test.true c.put-place.ensures

pub returns : goal.returns
returns c = appended-all _ _ c.loop-byte.invariant c.loop-byte-test.false
