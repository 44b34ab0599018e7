-- The far vertex over a half-edge. Definitions only.
use Rattle.std.specs.Prelude.{ℕ, zero, suc}
use Rattle.mesh.specs.Mesh.{Links}
use Rattle.dcel.specs.declared.handles.Far.{Far}

-- the far vertex, given the half-edge's face and the origin of its prev
unfoldable pub far_in : ℕ → ℕ → Far
far_in zero v = Far.Outer
far_in (suc f) v = Far.Vertex v

-- 01: "A far vertex is the origin of prev; a half-edge of the outer face has no far vertex."
unfoldable pub far_of : Links → ℕ → Far
far_of L e = far_in (L.face e) (L.origin (L.prev e))
