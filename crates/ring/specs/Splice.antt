-- LOCAL CHANGE: in a round of m + n edges from s, the first m (the chain, from s to r) give way to two, l to p and p to
-- r; the other n (the rest, from r) stay.
-- Each count of the new round is the old one less the chain's and with the two; so the new round is sound or not by a
-- few numbers. Assumes nothing.
use Rattle.std.specs.Prelude.{◌≡◌, refl, ◌≢◌, Bool, [], ℕ, zero, suc, ◌+◌, ◌<◌, ◌≤◌, T, leb}
use Rattle.std.proofs.Common.{sym, ◌∙◌}
use Rattle.std.proofs.Math.Path.{ap, ap₂}
use Rattle.std.proofs.Math.Decide.{dec_lt}
use native.Mathlib.Omega.{arith}
use Rattle.segment.specs.Arc.{holds, wide}
use Rattle.ring.specs.Ring.{at_ends, proper, wraps}
use Rattle.ring.specs.Sound.{Sound, SoundCounts}
use Rattle.sums.specs.Bit.{bit}
use Rattle.sums.proofs.BitLaws.{bit-1, bit_le, bit-yes}
use Rattle.sums.specs.Iterate.{iter}
use Rattle.sums.proofs.IterateLaws.{iter-ext, iter-last}
use Rattle.sums.specs.Tally.{tally, walk}
use Rattle.sums.proofs.TallyLaws.{counts, first, tally-add, tally-ext, walk-ext}

-- f and α before, f' and α' after; r is after m f s, and q the angle of p
pub record Spliced (f α f' α' : ℕ → ℕ) (s m n l p q r : ℕ) : Type 0 where
  pub some : 0 < m
  pub more : 0 < n
  pub right : iter m f s ≡ r
  pub round : iter n f r ≡ s
  pub l-p : f' l ≡ p
  pub p-r : f' p ≡ r
  pub at-l : α' l ≡ α s
  pub at_p : α' p ≡ q
  pub at_rest : (k : ℕ) → k < n → α' (iter k f r) ≡ α (iter k f r)
  pub rest : (k : ℕ) → suc k < n → f' (iter k f r) ≡ f (iter k f r)
  pub last : (k : ℕ) → suc k ≡ n → f' (iter k f r) ≡ l

-- What decides whether the new round is sound: q is not the right angle, neither new edge is wide, and enough nodes are left
pub record Fit (N : ℕ) (f α : ℕ → ℕ) (s m n q r : ℕ) : Type 0 where
  pub off-right : q ≢ α r
  pub left-gap : bit (wide N (α s) q) ≡ 0
  pub right-gap : bit (wide N q (α r)) ≡ 0
  pub size : 3 + tally (at_ends proper f α) (walk m f s) ≤ tally (at_ends proper f α) (walk (m + n) f s) + bit (proper (α s) q) + 1

-- The counts of the round after: `new φ` for a test φ, which is the old count less the chain's and with the two
pub record Replaced (new : (ℕ → ℕ → Bool) → ℕ) (f α : ℕ → ℕ) (s m n q r : ℕ) : Type 0 where
  pub right : iter m f s ≡ r
  pub round : iter n f r ≡ s
  pub local : (φ : ℕ → ℕ → Bool)
      → new φ + tally (at_ends φ f α) (walk m f s)
      ≡ tally (at_ends φ f α) (walk (m + n) f s) + bit (φ (α s) q) + bit (φ q (α r))

-- A splice that leaves a sound round: an edge of the chain, `place` steps from s, holds q, and the two new edges fit
pub record FitSplice (N : ℕ) (f α f' α' : ℕ → ℕ) (s m n l p q r : ℕ) : Type 0 where
  pub spliced : Spliced f α f' α' s m n l p q r
  pub place : ℕ
  pub place_in : place < m
  pub place-holds : T (at_ends (holds q) f α (iter place f s))
  pub fit : Fit N f α s m n q r
