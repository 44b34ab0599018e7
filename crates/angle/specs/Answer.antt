-- The angle of a vertex, where it has one. Definitions only.
use Rattle.std.specs.Prelude.{ℤ, Float, Option, None, Some, IfSome, if◌then◌else◌}
use Rattle.angle.specs.Angle.{IsAngle, angle_about, at_center}

-- 01: "A point at the centre has no angle."
abbrev pub vertex_angle : ℤ → ℤ → Float → Float → Option Float
vertex_angle x y cx cy = if at_center x y cx cy then None else Some (angle_about x y cx cy)

-- the angle that it carries is one
abbrev pub CarriesAngle : Option Float → Type 0
CarriesAngle a = IfSome a IsAngle
