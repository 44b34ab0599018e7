-- The centre is worked out without rounding: each coordinate is its sum times 11184811 / 2 ^ 25, and the steps of the Rust,
-- which adds floats, give the same float. Assumes nothing.
use Rattle.std.specs.Prelude.{◌≡◌, refl, Bool, true, false, not, cond, [], ◌∷◌, ℕ, suc, ◌+◌, ◌-◌, ◌*◌, ◌^◌, ◌≤◌, ◌<◌, T, ltb, Float, ℤ, pos, negsuc, nat_abs, ◌+ℤ◌}
use Rattle.std.proofs.Common.{sym, ap, ap₂, ◌∙◌, subst, le_trans, mul-one, mul_assoc, mul_right_comm, mul-pos, lt_of_lt_of_le, arith, lit<, lit≤, pow-add, pow_pos, pow_mono, shl_lt}
use Rattle.std.specs.Float.{nan, inf, fin, binary32, binary64}
use Rattle.std.specs.Float.Ieee.{unlike, up, down, round, sum, add, mul, div, of_int, fits}
use Rattle.std.specs.Float.Ieee.Back.{round_whole}
use Rattle.std.specs.Float.Ieee.Exact.{HasValue, round_exact}
use Rattle.std.specs.Float.Ieee.Fits.{down_pos, mul-fits}
use Rattle.std.specs.Float.Ieee.Scale.{round_same}
use Rattle.std.proofs.Math.IntN.{+ℤ_idl}
use Rattle.std.specs.Int.Signed.{non_neg}
use Rattle.algebra.proofs.Bound.{[]ᵉ, ◌∷ᵉ◌, within}
use Rattle.algebra.proofs.Fractions.{add-fractions}
use Rattle.algebra.specs.Ring.{◌⊕◌}
use Rattle.algebra.proofs.RingLaws.{v0, v1, v2}
use Rattle.angle.specs.Angle.{zero64, one64, three64}
use Rattle.math.specs.declared.Point.{Point}
use Rattle.mesh.specs.declared.Counts.{Counts}
use Rattle.mesh.proofs.CountsLaws.{vertices-least}
use Rattle.mesh.specs.Good.{Good}
use Rattle.mesh.specs.Mesh.{Links}
use Rattle.sums.proofs.BitLaws.{Tells, lt?}
use Rattle.hull_center.specs.HullCenter.{last_three, SmallSum, third, center_coordinate, center_of, hull_center}

-- 000: the sum from `zero` on, vertex by vertex, and the product with `1f32 / 3f32`
abbrev pub rust_coordinate : ℤ → ℤ → ℤ → Float
rust_coordinate x y z =
    mul binary64 (add binary64 (add binary64 (add binary64 zero64 (of_int binary64 x)) (of_int binary64 y)) (of_int binary64 z))
    (div binary32 one64 three64)
