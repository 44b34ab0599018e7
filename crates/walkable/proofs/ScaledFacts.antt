-- Laws of specs/Scaled.antt.
use Rattle.std.specs.Prelude.{ℕ, ℤ, pos, negsuc, ◌+ℤ◌, ◌-ℤ◌, ◌*ℤ◌, ◌<ℤ◌, ◌≤ℤ◌}
use Rattle.math.specs.declared.Point.{Point}
use Rattle.math.specs.declared.Vector.{Vector}
use Rattle.mesh.specs.declared.Counts.{Counts}
use Rattle.mesh.specs.Mesh.{Links, to}
use Rattle.walkable.specs.Covering.{boundary_crossings}

-- how much to enlarge, beside numbers up to n
abbrev pub large : ℕ → ℤ
large n = pos n +ℤ pos 4
