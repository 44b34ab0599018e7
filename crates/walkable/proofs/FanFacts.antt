-- Laws of specs/Fan.antt.
use Rattle.std.specs.Prelude.{◌≡◌, ℕ, ◌<◌}
use Rattle.math.specs.declared.Point.{Point}
use Rattle.math.specs.declared.Vector.{Vector}
use Rattle.math.specs.Vector.{difference}
use Rattle.mesh.specs.declared.Counts.{Counts}
use Rattle.mesh.specs.Mesh.{Links, In, to}

abbrev pub spoke : Links → (ℕ → Point) → ℕ → Vector
spoke L p e = difference (p (to L e)) (p (L.origin e))
