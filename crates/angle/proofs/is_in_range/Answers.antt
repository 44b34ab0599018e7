-- `angle::is_in_range` meets its contract, by the law `bounded-is`. Assumes nothing.
use Rattle.std.proofs.Common.{◌∙◌}
use lib.Ieee.{of_bits, neg}
use Rattle.angle.proofs.Center.{bounded-is}
use Rattle.angle.proofs.is_in_range.Goals as goal

pub returns-then-x : goal.returns-then-x
unfolding of_bits neg
returns-then-x c = simp c.if-x.true at (bounded-is c.args.x)

pub returns-else-x : goal.returns-else-x
unfolding of_bits neg
returns-else-x c = c.if-x.false ∙ simp c.if-x.false at (bounded-is c.args.x)
