-- The chain that a new vertex replaces grows by one edge at a time: a face between the new edge and its neighbour on
-- the boundary takes the neighbour away, and puts a new half-edge in the place of the new edge.
-- `Spliced` always tells of the boundary before the first of these faces, so that one theorem on inserting serves for
-- any number of them. Assumes nothing.
use Rattle.std.specs.Prelude.{◌≡◌, refl, ℕ, suc, ◌<◌}
use Rattle.std.proofs.Common.{sym, ◌∙◌, ap, arith}
use Rattle.ring.specs.Splice.{Spliced}
use Rattle.sums.specs.Iterate.{iter}
use Rattle.sums.proofs.IterateLaws.{iter-last}

-- the step from f', α' to f'', α'' to the right: p to r and r itself make way for p', from p to the end of r
pub record ToRight (f f' α' f'' α'' : ℕ → ℕ) (n l p p' q r : ℕ) : Type 0 where
  pub l-p : f'' l ≡ p'
  pub p-r : f'' p' ≡ f r
  pub at-l : α'' l ≡ α' l
  pub at_p : α'' p' ≡ q
  pub at_rest : (k : ℕ) → k < n → α'' (iter (suc k) f r) ≡ α' (iter (suc k) f r)
  pub rest : (k : ℕ) → k < n → f'' (iter (suc k) f r) ≡ f' (iter (suc k) f r)

-- to the left: x, the last of the rest, and l make way for l', from the beginning of x to p
pub record ToLeft (f α f' α' f'' α'' : ℕ → ℕ) (n l' p q r : ℕ) : Type 0 where
  pub l-p : f'' l' ≡ p
  pub p-r : f'' p ≡ r
  pub at-l : α'' l' ≡ α' (iter n f r)
  pub at_p : α'' p ≡ q
  pub at_rest : (k : ℕ) → k < n → α'' (iter k f r) ≡ α' (iter k f r)
  pub rest : (k : ℕ) → suc k < n → f'' (iter k f r) ≡ f' (iter k f r)
  pub last : (k : ℕ) → suc k ≡ n → f'' (iter k f r) ≡ l'
