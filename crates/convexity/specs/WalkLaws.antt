-- A pass with O(1) state: each of its loops ends, and what it does is a sequence of corners closed. Assumes nothing.
use Rattle.std.specs.Prelude.{true, false, ◌≡◌, ℕ, ◌+◌, ◌<◌}
use Rattle.corner.specs.CornerLaws.{Closings}
use Rattle.math.specs.declared.Point.{Point}
use Rattle.mesh.specs.Mesh.{In}
use Rattle.mesh.specs.Area.{boundary_length}
use Rattle.mesh.specs.Good.{Good}
use Rattle.convexity.specs.Convexity.{turns_left_at}
use Rattle.convexity.specs.Walk.{Walk, edge1, edge2, stops}

-- the current half-edge is on the boundary of a good mesh, and each turn left is for one of the half-edges that are not
-- behind it, or the last
pub record Walking (p : ℕ → Point) (w : Walk) : Type 0 where
  pub good : Good w.mesh.counts w.mesh.links p
  pub current : In w.mesh.counts w.current × (w.mesh.links.face w.current ≡ 0)
  pub count : w.depth + w.left ≡ boundary_length w.mesh.counts w.mesh.links + 1

-- ---- the inner loop
-- the test, where it says that a corner is to be closed
pub record Turns (p : ℕ → Point) (w : Walk) : Type 0 where
  pub room : w.mesh.full ≡ false
  pub two : 1 < w.depth
  pub left : turns_left_at w.mesh.links p (edge1 w) (edge2 w) ≡ true

-- a turn from w comes to r
pub record Turned (p : ℕ → Point) (w r : Walk) : Type 0 where
  pub walking : Walking p r
  pub closings : Closings p w.mesh r.mesh
  pub current : r.current ≡ w.mesh.links.next w.current
  pub left : r.left + 1 ≡ w.left
  pub ends : stops p r ≡ true
