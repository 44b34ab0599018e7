-- Walks as lists, and tallies: `walk n f s` is the list of the n places from s on, `tally b l` is how many of a list
-- pass the test b, and `First b f n s k` says that the walk's first place to pass is k steps on.
-- A round's tally is the same from any of its places. The tally of a walk is a `count` of its steps, and the first
-- place a `first_below`. Assumes nothing.
use Rattle.std.specs.Prelude.{◌≡◌, refl, ◌≢◌, Bool, List, [], ◌∷◌, ◌++◌, ℕ, zero, suc, ◌+◌, ◌<◌, ◌≤◌, T, length, get_or}
use Rattle.std.proofs.Common.{sym, ◌∙◌, ap, suc-add, zero-add, arith}
use Rattle.std.proofs.Math.Decide.{ℕ_discrete}
use Rattle.sums.specs.Bit.{bit}
use Rattle.sums.specs.Put.{put}
use Rattle.sums.specs.Bounded.{count, Least, first_below}
use Rattle.sums.specs.Iterate.{iter, Inverse}

-- the n places from s on
unfoldable pub walk : ℕ → (ℕ → ℕ) → ℕ → List ℕ
walk zero f s = []
walk (suc n) f s = s ∷ walk n f (f s)

-- how many of a list pass a test
unfoldable pub tally : (ℕ → Bool) → List ℕ → ℕ
tally b [] = 0
tally b (x ∷ l) = bit (b x) + tally b l

-- ---- the first place of a walk that passes
pub record First (b : ℕ → Bool) (f : ℕ → ℕ) (n s k : ℕ) : Type 0 where
  pub below : k < n
  pub passes : T (b (iter k f s))
  pub before : (j : ℕ) → j < k → T (b (iter j f s)) → ⊥
