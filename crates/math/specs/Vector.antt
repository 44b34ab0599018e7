-- Differences of points, as the code computes with them: their sizes, and the determinants by their products.
-- Assumes nothing.
use Rattle.std.specs.Prelude.{◌≤◌, ℤ, nat_abs, ◌+ℤ◌, ◌-ℤ◌, ◌*ℤ◌}
use Rattle.math.specs.declared.Point.{Point}
use Rattle.math.specs.declared.Vector.{Vector}

unfoldable pub difference : Point → Point → Vector
difference p q = record { x = p.x -ℤ q.x; y = p.y -ℤ q.y }

unfoldable pub dot_of : Vector → Vector → ℤ
dot_of u v = u.x *ℤ v.x +ℤ u.y *ℤ v.y

unfoldable pub cross_of : Vector → Vector → ℤ
cross_of u v = u.x *ℤ v.y -ℤ u.y *ℤ v.x

-- ---- sizes: a difference of two points in range is at most 2 ^ 25, a product of two such at most 2 ^ 51
pub record Short (v : Vector) : Type 0 where
  pub x : nat_abs v.x ≤ 33554432
  pub y : nat_abs v.y ≤ 33554432
