-- What the exported test answers, as a number. A point out of range has an answer of its own, since whoever calls from C has shown nothing.
use Rattle.std.specs.Prelude.{Bool, true, false, ◌&&◌, ℕ, ℤ}
use Rattle.math.specs.declared.Point.{Point}
use Rattle.math.specs.Determinant.{contained_in_circumference, is_valid_vertex}

abbrev pub at : ℤ → ℤ → Point
at x y = record { x = x; y = y }

abbrev pub inside_number : Bool → ℕ
inside_number false = 0
inside_number true = 1

-- n, or other where a point is out of range
abbrev pub in_range_or : Bool → ℕ → ℕ → ℕ
in_range_or false other n = other
in_range_or true other n = n

abbrev pub circle_answer : Point → Point → Point → Point → ℕ
circle_answer v1 v2 v3 p =
    in_range_or (is_valid_vertex v1 && (is_valid_vertex v2 && (is_valid_vertex v3 && is_valid_vertex p))) 2
    (inside_number (contained_in_circumference v1 v2 v3 p))
