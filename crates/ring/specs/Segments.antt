-- Segments of a circle of N places: the segment from a to b holds the places from a up to and without b, going up, and
-- past N back at 0 where b is less than a.
-- What a segment holds is told by three order tests, and that is an equation of 0s and 1s (`held`), from which all
-- about rings follows by adding up. Assumes nothing.
use Rattle.std.specs.Prelude.{◌≡◌, refl, ◌≢◌, Bool, true, false, not, cond, ◌&&◌, ◌||◌, ℕ, ◌+◌, ◌-◌, ◌*◌, ◌<◌, ◌≤◌, T, ltb, leb, eqb}
use Rattle.std.proofs.Math.Decide.{ℕ_discrete}
use Rattle.std.proofs.Common.{arith, ltb→lt, eqb→eq, lt→ltb, le→leb}
use Rattle.ring.specs.Ring.{proper, wraps}
use Rattle.segment.specs.Arc.{holds, gap, wide}
use Rattle.sums.specs.Bit.{bit}
use Rattle.sums.proofs.BitLaws.{Tells, bit-no, eq?, le?, lt?, sure}

-- ---- what a segment holds, as facts
pub data Holds (x a b : ℕ) : Type 0 where
  plain : a < b → a ≤ x → x < b → Holds x a b
  late : b < a → a ≤ x → Holds x a b
  early : b < a → x < b → Holds x a b
