-- `hull_center_rows::center_coordinate` meets its contract: the number goes into an f64 as it is. Assumes nothing.
use mathlib.Core.Path.{sym, ap, subst}
use lib.Dec.{T}
use lib.Ieee.{binary64, in_float, mul, of_int, of_bits}
use lib.IntN.{ℤ}
use mir.Facts.{to_z-of_z}
use Rattle.hull_center.specs.HullCenter.{third, center_coordinate}
use Rattle.hull_center_rows.proofs.Numbers.{in-float}
use Rattle.hull_center_rows.proofs.center_coordinate.Goals as goal

pub int_to_float-result : goal.int_to_float-result
int_to_float-result c =
    subst (λ (z : ℤ). T (in_float binary64 z)) {x = c.args.sum} (sym (to_z-of_z c.ranges.sum)) (in-float c.args.sum c.requires)

pub returns : goal.returns
unfolding center_coordinate of_bits
returns c = ap (λ (z : ℤ). mul binary64 (of_int binary64 z) third) (to_z-of_z c.ranges.sum)
