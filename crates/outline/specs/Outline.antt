-- The boundary of a mesh, walked along next: through how many full circles its directions turn. Exact, in whole numbers.
-- Definitions only, and each computes; the laws are in `Rounds` and `MeshHull`.
use Rattle.std.specs.Prelude.{Bool, not, ◌&&◌, ◌||◌, ◌≡◌, ℕ, suc, pos, ◌<ℤ◌, ◌≤ℤ◌}
use Rattle.std.specs.Int.Signed.{lt_z, le_z}
use Rattle.math.specs.declared.Point.{Point}
use Rattle.math.specs.declared.Vector.{Vector}
use Rattle.math.specs.Determinant.{orient2d}
use Rattle.math.specs.Vector.{difference, dot_of}
use Rattle.mesh.specs.declared.Counts.{Counts}
use Rattle.mesh.specs.Mesh.{Links, In, to}
use Rattle.mesh.specs.Area.{boundary_length, hull_edge, at_corners}
use Rattle.sums.specs.Bounded.{count}

-- the upper half-plane, half open: y > 0, or y = 0 and x > 0. Of v and -v, not 0, just one is in it
unfoldable pub upper : Vector → Bool
upper v = lt_z (pos 0) v.y || (le_z (pos 0) v.y && lt_z (pos 0) v.x)

-- how many half-edges of the boundary pass a test
unfoldable pub count_boundary : Counts → Links → (ℕ → Bool) → ℕ
count_boundary C L t = count (boundary_length C L) (λ k. t (hull_edge L k))

-- the direction of a half-edge
unfoldable pub direction : Links → (ℕ → Point) → ℕ → Vector
direction L p e = difference (p (to L e)) (p (L.origin e))

-- a direction of the upper half-plane is followed by one of the lower
unfoldable pub falls_next : Links → (ℕ → Point) → ℕ → Bool
falls_next L p e = upper (direction L p e) && not (upper (direction L p (L.next e)))

-- through how many full circles the boundary's directions turn, where all turns go right and by less than half a circle
abbrev pub full_circles : Counts → Links → (ℕ → Point) → ℕ
full_circles C L p = count_boundary C L (falls_next L p)

-- a corner of the boundary that does not turn goes on ahead: none goes straight back
pub record NoneStraightBack (C : Counts) (L : Links) (p : ℕ → Point) : Type 0 where
  pub ahead : {e : ℕ} → In C e → L.face e ≡ 0 → at_corners orient2d L p e ≡ pos 0
      → pos 0 <ℤ dot_of (direction L p e) (direction L p (L.next e))

-- the boundary is the hull of its vertices: none lies left of a boundary edge
pub record BoundaryHull (C : Counts) (L : Links) (p : ℕ → Point) : Type 0 where
  pub hull : {e d : ℕ} → In C e → L.face e ≡ 0 → In C d → L.face d ≡ 0
      → orient2d (p (L.origin e)) (p (to L e)) (p (L.origin d)) ≤ℤ pos 0
