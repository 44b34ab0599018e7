-- LOCATE: how many nodes the walk passes from the node that holds y to the node that holds x, where y ≤ x: as many as
-- there are angles above y and up to x.
-- Let v be 1 at an angle above y and up to x, and else 0. By `held` for x and for y, v changes only after the node that
-- holds y (up) and after the one that holds x (down). Assumes nothing.
use Rattle.std.specs.Prelude.{◌≡◌, refl, ◌≢◌, Bool, true, false, ◌&&◌, ltb, leb}
use Rattle.std.proofs.Common.{sym, ◌∙◌, subst, div-add-mod', mod-lt, mul-le-mul_right}
use Rattle.std.proofs.Math.Path.{ap}
use Prim.Native.Nat.{ℕ, zero, suc, ◌+◌, ◌-◌, ◌*◌, ◌/◌, ◌<◌, ◌≤◌}
use Rattle.std.proofs.Math.Decide.{ℕ_discrete, dec_lt}
use native.Mathlib.Omega.{arith}
use Rattle.std.proofs.Math.Dec.{T}
use Rattle.segment.specs.Arc.{holds, wide}
use Rattle.ring.specs.Ring.{at_ends, between, proper, wraps}
use Rattle.ring.specs.Sound.{Sound}
use Rattle.ring.specs.Buckets.{Sized}
use Rattle.ring.specs.Node.{NodeTable, nodes}
use Rattle.ring.specs.Insert.{Ring}
use Rattle.sums.specs.Bit.{bit}
use Rattle.sums.proofs.BitLaws.{Tells, bit-1, bit_le, bit-no, le?, lt?}
use Rattle.sums.specs.Iterate.{iter}
use Rattle.sums.proofs.IterateLaws.{iter-add, iter-last}
use Rattle.sums.specs.Tally.{First, tally, walk}
use Rattle.sums.proofs.TallyLaws.{counts, first, tally-add, tally-ext}

-- the count over the nodes is the count over the boundary: of the proper edges, whose first angles are the boundary's
-- angles with equal neighbours taken once
unfoldable pub angle_in : ℕ → ℕ → ℕ → ℕ → Bool
angle_in y x a b = proper a b && between y x a
