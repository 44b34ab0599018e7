-- Rounds: s, f s, f (f s), .. n steps on and back at s. How many of its edges pass a test is a sum over the walk; an
-- edge e goes from the angle α e to the angle α (f e).
-- TILE: in a round with one wrapping edge each place is held by exactly one edge. Assumes nothing.
use Rattle.std.specs.Prelude.{◌≡◌, refl, Bool, [], ℕ, zero, suc, ◌+◌, ◌<◌, ◌≤◌, T, leb}
use Rattle.std.proofs.Common.{◌∙◌, ap, arith}
use Rattle.segment.specs.Arc.{holds, wide}
use Rattle.ring.specs.Ring.{at_ends, proper, wraps}
use Rattle.sums.specs.Bit.{bit}
use Rattle.sums.specs.Iterate.{iter}
use Rattle.sums.proofs.IterateLaws.{iter-last}
use Rattle.sums.specs.Tally.{First, tally, walk}
use Rattle.sums.proofs.TallyLaws.{first, sole, tally-turn}

-- What makes a ring sound on a circle of N places, where `count φ` is how many of its edges pass the test φ of their two ends' angles
pub record SoundCounts (N : ℕ) (count : (ℕ → ℕ → Bool) → ℕ) : Type 0 where
  pub three : 3 ≤ count proper
  pub once : count wraps ≡ 1
  pub gaps : count (wide N) ≡ 0

-- a sound ring: n edges from s on
pub record Sound (N : ℕ) (f α : ℕ → ℕ) (s n : ℕ) : Type 0 where
  pub closed : iter n f s ≡ s
  pub three : 3 ≤ tally (at_ends proper f α) (walk n f s)
  pub once : tally (at_ends wraps f α) (walk n f s) ≡ 1
  pub gaps : tally (at_ends (wide N) f α) (walk n f s) ≡ 0
