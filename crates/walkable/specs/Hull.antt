-- Points that a triangle holds, and boundary edges with no boundary vertex beyond them. Definitions only; `HullLaws` has the laws.
use Rattle.std.specs.Prelude.{ℕ, ◌≡◌, pos, ◌≤ℤ◌}
use Rattle.math.specs.declared.Point.{Point}
use Rattle.math.specs.Determinant.{orient2d}
use Rattle.mesh.specs.declared.Counts.{Counts}
use Rattle.mesh.specs.Mesh.{Links, In, to}

-- no boundary vertex is strictly left of the line from x to y: it supports the boundary
pub record Supports (C : Counts) (L : Links) (p : ℕ → Point) (x y : Point) : Type 0 where
  pub right : {e : ℕ} → In C e → L.face e ≡ 0 → orient2d x y (p (L.origin e)) ≤ℤ pos 0

-- each boundary edge does: the boundary is convex
pub record Convex (C : Counts) (L : Links) (p : ℕ → Point) : Type 0 where
  pub hull : {e : ℕ} → In C e → L.face e ≡ 0 → Supports C L p (p (L.origin e)) (p (to L e))
