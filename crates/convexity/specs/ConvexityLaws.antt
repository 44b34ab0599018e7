-- The passes of a finish on a good mesh. A pass that adds no face has tested every corner of the boundary; each other
-- pass adds one of the faces that the boundary's length leaves, so the passes end. What they make of the mesh is a
-- sequence of corners closed (`Closings`), each followed by a run of flips, and where no flip was refused, no corner of
-- the boundary turns left afterwards. Assumes nothing.
use Rattle.std.specs.Prelude.{Bool, cond, ◌≡◌, ℕ, suc, ◌+◌}
use Rattle.std.proofs.Math.Bool.{true, false}
use Rattle.math.specs.declared.Point.{Point}
use Rattle.mesh.specs.Mesh.{Links}
use Rattle.mesh.specs.Area.{boundary_length}
use Rattle.mesh.specs.Good.{Good}
use Rattle.sums.specs.Iterate.{iter}
use Rattle.convexity.specs.Convexity.{turns_left_at, Passes, NoLeftCorner}

-- ---- the corners that a walk has tested
-- the corner of the two half-edges that are k and k + 1 steps behind the last one behind c
abbrev pub corner_behind : (ℕ → Point) → Links → ℕ → ℕ → Bool
corner_behind p L c k = turns_left_at L p (iter (suc (suc k)) L.prev c) (iter (suc k) L.prev c)

-- ---- pass after pass
pub record Passing (p : ℕ → Point) (s : Passes) : Type 0 where
  pub good : Good s.mesh.counts s.mesh.links p
  pub full : s.still ≡ false → s.mesh.full ≡ false
  pub convex : s.still ≡ true → s.mesh.full ≡ false → NoLeftCorner s.mesh.counts s.mesh.links p

-- what falls: the boundary's length, and one for the pass that adds nothing
unfoldable pub passes_left : Passes → ℕ
passes_left s = cond s.still 0 (boundary_length s.mesh.counts s.mesh.links + 1)
