-- `segment::gap_of` meets its contract: the two are angles. Assumes nothing.
use Rattle.angle.proofs.Bits.{angle-valid}
use Rattle.segment.proofs.gap_of.Goals as goal

pub turns_of-a-requires : goal.turns_of-a-requires
turns_of-a-requires c = angle-valid c.args.from c.requires.0

pub turns_of-b-requires : goal.turns_of-b-requires
turns_of-b-requires c = angle-valid c.args.to c.requires.1
