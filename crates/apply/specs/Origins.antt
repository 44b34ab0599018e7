-- The vertices of the boundary while a step goes on: the new one, and vertices of the boundary before. Assumes nothing.
use Rattle.std.specs.Prelude.{◌⊎◌, ◌≡◌, refl, ℕ, zero, suc, ◌+◌, ◌<◌}
use Rattle.std.proofs.Common.{inl, inr, sym, ◌∙◌, ap, subst, arith}
use Rattle.corner.specs.Corner.{Extended}
use Rattle.math.specs.declared.Point.{Point}
use Rattle.mesh.specs.declared.Counts.{Counts}
use Rattle.mesh.specs.Mesh.{Links, In}
use Rattle.mesh.specs.Area.{boundary_length}
use Rattle.ring.specs.Ring.{edge_angle}
use Rattle.ring.proofs.Boundary.{outer-walk, outer-on}
use Rattle.ring.specs.Covered.{Covered}
use Rattle.ring.proofs.CoveredLaws.{covered-rest, covered-in}
use Rattle.ring.specs.CoveredEnds.{RestEnds}
use Rattle.sums.specs.Iterate.{iter}
use Rattle.apply.specs.Walks.{Before, Along}

-- a vertex of the boundary before
pub record OldVertex (C : Counts) (L : Links) (u : ℕ) : Type 0 where
  pub edge : ℕ
  pub in_use : In C edge
  pub outer : L.face edge ≡ 0
  pub is : u ≡ L.origin edge
