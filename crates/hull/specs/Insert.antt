-- AN INSERT AFTER A STEP: what it asks of rows that hold the ring of the boundary before, and that the rows then hold the
-- ring of the boundary after. Assumes nothing.
use Rattle.std.specs.Prelude.{ℕ, ◌+◌, ◌<◌, ◌≤◌, ◌≡◌, T}
use Rattle.mesh.specs.declared.Counts.{Counts}
use Rattle.mesh.specs.Mesh.{Links, In}
use Rattle.mesh.specs.Area.{boundary_length}
use Rattle.sums.specs.Iterate.{iter}
use Rattle.segment.specs.Arc.{holds}
use Rattle.ring.specs.Ring.{full_turn, at_ends, edge_angle}
use Rattle.ring.specs.Splice.{Fit}
use Rattle.ring.specs.Covered.{Covered}

-- A step has covered m edges of the boundary from e on, one of which holds the new vertex's angle q; the edges l to it
-- and p from it stand for them, and the boundary after has a sound ring
pub record Change (C : Counts) (L : Links) (α : ℕ → ℕ) (C' : Counts) (L' : Links) (α'' : ℕ → ℕ) (e m n l p q r : ℕ) : Type 0 where
  pub in_use : In C e
  pub outer : L.face e ≡ 0
  pub whole : m + n ≡ boundary_length C L
  pub covered : Covered L.next (edge_angle L α) C' L' α'' e m n l p q r
  pub place : ℕ
  pub place_in : place < m
  pub place-holds : T (at_ends (holds q) L.next (edge_angle L α) (iter place L.next e))
  pub fit : Fit full_turn L.next (edge_angle L α) e m n q r
  pub low : q ≤ full_turn
