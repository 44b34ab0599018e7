-- `angle::validate_angle` meets its contract, by the law `valid-is`. Assumes nothing.
use Rattle.std.proofs.Common.{◌∙◌}
use lib.Ieee.{of_bits}
use Rattle.angle.proofs.Valid.{valid-is}
use Rattle.angle.proofs.validate_angle.Goals as goal

pub returns-then-a : goal.returns-then-a
unfolding of_bits
returns-then-a c = simp c.if-a.true at (valid-is c.args.a)

pub returns-else-a : goal.returns-else-a
unfolding of_bits
returns-else-a c = c.if-a.false ∙ simp c.if-a.false at (valid-is c.args.a)
