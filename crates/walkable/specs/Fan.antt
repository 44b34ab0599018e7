-- The fan of a vertex: its out half-edges, each with its direction, the spoke. Definitions only; `FanLaws` has the laws.
use Rattle.std.specs.Prelude.{◌≡◌, ℕ, ◌<◌}
use Rattle.math.specs.declared.Point.{Point}
use Rattle.math.specs.declared.Vector.{Vector}
use Rattle.math.specs.Vector.{difference}
use Rattle.mesh.specs.declared.Counts.{Counts}
use Rattle.mesh.specs.Mesh.{Links, In, to}

-- no out half-edge of v is on the boundary
pub record Inner (C : Counts) (L : Links) (v : ℕ) : Type 0 where
  pub inner : {e : ℕ} → In C e → L.origin e ≡ v → 0 < L.face e
