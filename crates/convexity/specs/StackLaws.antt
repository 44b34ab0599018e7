-- The pass of `Convexity`, with its stack, is the pass of `Walk`, with the stack's depth: the stack is the chain of
-- half-edges behind the current one. Only in the last turn, when the walk has come around, can its first entry have
-- left the boundary; that one is not looked at. So the stack's second entry is the current half-edge just where no turn
-- is left. Assumes nothing.
use Rattle.std.specs.Prelude.{◌≡◌, ℕ, suc, ◌<◌}
use mathlib.Core.List.{List}
use Rattle.std.proofs.Math.ListN.{length, get_or}
use Rattle.math.specs.declared.Point.{Point}
use Rattle.mesh.specs.Area.{boundary_length}
use Rattle.sums.specs.Iterate.{iter}
use Rattle.convexity.specs.Convexity.{Pass}
use Rattle.convexity.specs.Walk.{Walk}
use Rattle.convexity.specs.WalkLaws.{Walking}

abbrev pub pass_of : Walk → List ℕ → Pass
pass_of w l = record { mesh = w.mesh; current = w.current; edges = l }

-- the list l is the stack at w
pub record Chain (w : Walk) (l : List ℕ) : Type 0 where
  pub depth : length l ≡ w.depth
  pub entries : (k : ℕ) → k < w.depth → k < boundary_length w.mesh.counts w.mesh.links
      → get_or l k 0 ≡ iter (suc k) w.mesh.links.prev w.current

-- ---- a pass and a walk that stay together
pub record Stacked (p : ℕ → Point) (s : Pass) (w : Walk) : Type 0 where
  pub stack : List ℕ
  pub is : s ≡ pass_of w stack
  pub chain : Chain w stack
  pub walking : Walking p w
