-- The half-edges of the boundary behind a half-edge c of it, and the corner of the two behind c when it turns left and
-- is closed: the boundary is shorter by one, and as it was behind the corner.
-- Assumes nothing.
use Rattle.std.specs.Prelude.{◌≡◌, ℕ, suc, ◌+◌, ◌*◌, ◌<◌}
use Rattle.mesh.specs.declared.Counts.{Counts}
use Rattle.mesh.specs.Mesh.{Links, In}
use Rattle.mesh.specs.Area.{boundary_length}
use Rattle.sums.specs.Iterate.{iter}

-- ---- what `close_corner` does behind a half-edge c of the boundary
pub record Behind (C C' : Counts) (L L' : Links) (c : ℕ) : Type 0 where
  pub current : In C' c × (L'.face c ≡ 0)
  pub last : L'.prev c ≡ 2 * C.edges + 1
  pub rest : (k : ℕ) → suc (suc k) < boundary_length C L → iter (suc (suc k)) L'.prev c ≡ iter (suc (suc (suc k))) L.prev c
