-- Laws of specs/Covering.antt.
use Rattle.std.specs.Prelude.{ℕ, ℤ}
use Rattle.math.specs.declared.Point.{Point}
use Rattle.mesh.specs.declared.Counts.{Counts}
use Rattle.mesh.specs.Mesh.{Links, to}
use Rattle.insertion.specs.Plane.{Inside}
use Rattle.mesh.specs.Cochain.{boundary_circulation}
use Rattle.covering.specs.Crossing.{edge_crossing}

-- q is strictly inside the triangle of e
abbrev pub InsideAt : Links → (ℕ → Point) → Point → ℕ → Type 0
InsideAt L p q e = Inside (p (L.origin e)) (p (to L e)) (p (L.origin (L.prev e))) q
