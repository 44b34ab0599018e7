-- `angle::to_bits` meets its contract: an angle is no NaN, and comes back from its pattern. Assumes nothing.
use mathlib.Core.Path.{refl}
use Rattle.angle.proofs.Bits.{angle-no-nan, angle-bits}
use Rattle.angle.proofs.to_bits.Goals as goal

pub float_to_bits-result : goal.float_to_bits-result
float_to_bits-result c = angle-no-nan c.args.a c.requires

pub returns : goal.returns
returns c = record { is = refl; back = angle-bits c.args.a c.requires }
