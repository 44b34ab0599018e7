-- Points in the triangles of a mesh whose vertices have the positions p. Definitions only; `CoveringLaws` has the laws.
use Rattle.std.specs.Prelude.{ℕ, ℤ}
use Rattle.math.specs.declared.Point.{Point}
use Rattle.mesh.specs.declared.Counts.{Counts}
use Rattle.mesh.specs.Mesh.{Links, to}
use Rattle.insertion.specs.Plane.{Inside}
use Rattle.mesh.specs.Cochain.{boundary_circulation}
use Rattle.covering.specs.Crossing.{edge_crossing}

-- how the boundary does, along next
abbrev pub boundary_crossings : Counts → Links → (ℕ → Point) → Point → ℤ
boundary_crossings C L p q = boundary_circulation C L (edge_crossing L p q)
