-- Laws of specs/Outline.antt.
use Rattle.std.specs.Prelude.{Bool, not, ◌&&◌, ◌||◌, ◌≡◌, ℕ, suc, pos, ◌<ℤ◌, ◌≤ℤ◌}
use Rattle.std.specs.Int.Signed.{lt_z, le_z}
use Rattle.math.specs.declared.Point.{Point}
use Rattle.math.specs.declared.Vector.{Vector}
use Rattle.math.specs.Determinant.{orient2d}
use Rattle.math.specs.Vector.{difference, dot_of}
use Rattle.mesh.specs.declared.Counts.{Counts}
use Rattle.mesh.specs.Mesh.{Links, In, to}
use Rattle.mesh.specs.Area.{boundary_length, hull_edge, at_corners}
use Rattle.sums.specs.Bounded.{count}

-- the test passes at k and fails at the number that follows
abbrev pub falls : (ℕ → Bool) → ℕ → Bool
falls t k = t k && not (t (suc k))
