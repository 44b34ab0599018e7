-- The closing pass of 01. Definitions only; its laws are in `ClosingLaws`.
-- 01: "It tests the edges by rising number from 0: where both half-edges of edge u have a far vertex and that of 2u+1
-- is strictly inside the circle of 2u's triangle, `flip_cw` of 001 flips u, and the count, at first 0, rises by one. A
-- turn ends after the last edge; a turn that flipped is followed by another from 0, and one that flipped nothing ends
-- the pass. That count is the number of closing flips reported."
use Rattle.std.specs.Prelude.{Bool, false, cond, ℕ, zero, suc, ◌+◌, eqb, nat_abs}
use Rattle.math.specs.declared.Point.{Point}
use Rattle.mesh.specs.declared.Counts.{Counts}
use Rattle.mesh.specs.Mesh.{Links}
use Rattle.mesh.specs.Operations.{flip_cw}
use Rattle.mesh.specs.Circle.{breaks_circle}
use Rattle.mesh.specs.Area.{height_sum}
use Rattle.sums.specs.Until.{until}

-- the links, and the flips so far
pub record Closing : Type 0 where
  pub links : Links
  pub flips : ℕ

-- edge u is tested
unfoldable pub close_edge : (ℕ → Point) → ℕ → Closing → Closing
close_edge p u s = cond (breaks_circle s.links p u) (record { links = flip_cw s.links u; flips = suc s.flips }) s

-- the first n edges, by rising number
unfoldable pub close_below : (ℕ → Point) → ℕ → Closing → Closing
close_below p zero s = s
close_below p (suc n) s = close_edge p n (close_below p n s)

-- a turn, and whether it flipped nothing
pub record Turned : Type 0 where
  pub state : Closing
  pub still : Bool

unfoldable pub close_turn : Counts → (ℕ → Point) → Turned → Turned
close_turn C p t = let s = close_below p C.edges t.state in record { state = s; still = eqb s.flips t.state.flips }

-- before the first turn
abbrev pub unturned : Links → Turned
unturned L = record { state = record { links = L; flips = 0 }; still = false }

-- turns until one flips nothing; each but the last lowers the height sum
unfoldable pub closing_pass : Counts → (ℕ → Point) → Links → Closing
closing_pass C p L = (until (λ t. t.still) (close_turn C p) (nat_abs (height_sum C L p) + 2) (unturned L)).state
