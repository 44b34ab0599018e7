-- What a test of the edges at a vertex answers. Definitions only.
use Rattle.std.specs.Prelude.{false, ◌≡◌, ℕ, ◌/◌}
use Rattle.math.specs.declared.Point.{Point}
use Rattle.mesh.specs.declared.Counts.{Counts}
use Rattle.mesh.specs.Circle.{breaks_circle}
use Rattle.mesh.specs.Mesh.{Links, In}

-- no edge that the vertex v is an end of breaks the circle rule
pub record UnbrokenAt (C : Counts) (L : Links) (p : ℕ → Point) (v : ℕ) : Type 0 where
  pub edge : {e : ℕ} → In C e → L.origin e ≡ v → breaks_circle L p (e / 2) ≡ false
