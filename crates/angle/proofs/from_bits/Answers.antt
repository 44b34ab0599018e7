-- `angle::from_bits` meets its contract: an angle's pattern is no NaN's. Assumes nothing.
use Rattle.angle.proofs.Bits.{bits-no-nan}
use Rattle.angle.proofs.from_bits.Goals as goal

pub float_from_bits-result : goal.float_from_bits-result
float_from_bits-result c = bits-no-nan c.args.bits c.requires
