-- The test by computation: it passes on a square of side 4 with its centre; and it fails on a fan that winds twice, on which the answer of
-- a search does depend on its start. Assumes nothing.
use Rattle.std.specs.Prelude.{false, true, ◌≡◌, refl, [], ◌∷◌, ℕ, ℤ, pos, negsuc, get_or}
use Rattle.sums.specs.Bounded.{all_below, first_below, count}
use Rattle.sums.specs.Half.{rev}
use Rattle.sums.specs.Iterate.{reaches, period_below}
use Rattle.sums.specs.Until.{until, when}
use Rattle.math.specs.declared.Point.{Point}
use Rattle.math.specs.Determinant.{orient2d, by_sign, is_position, is_coordinate}
use Rattle.math.specs.Vector.{difference, cross_of, dot_of}
use Rattle.mesh.specs.declared.Counts.{Counts}
use Rattle.mesh.specs.Mesh.{Links}
use Rattle.mesh.specs.Wf.{Wf}
use Rattle.mesh.specs.Rules.{half_edge_in_use, links_in_use, half_edge_linked, inner_face_rule, outer_face_rule, side_rule, vertex_rule, euler_rule, rules}
use Rattle.mesh.proofs.RulesWf.{rules-wf}
use Rattle.mesh.specs.Area.{boundary_length}
use Rattle.outline.specs.Outline.{upper, count_boundary, direction, falls_next}
use Rattle.walkable.specs.Walkable.{Walkable}
use Rattle.location.specs.declared.PositionInTriangulation.TheVariants.{OnFace}
use Rattle.location.specs.declared.SearchState.TheVariants.{Found}
use Rattle.location.specs.Search.{beyond, across_edge, rotate_ccw, rotate_cw, on_line_of, by_side, search_turn, ended, advance, search_from}
use Rattle.nearby.specs.Test.{is_right_turn, is_walkable}

-- ---- the square: vertices 0 to 3 round it, 4 the centre; edge u of the square from u to u + 1 is half-edge 2u, the
-- spoke from u to the centre 8 + 2u; face u + 1 on edge u
abbrev pub wheel_counts : Counts
wheel_counts = record { vertices = 5; edges = 8; faces = 5 }

-- ---- a fan of five triangles about vertex 5, which winds twice about it
abbrev pub fan_counts : Counts
fan_counts = record { vertices = 6; edges = 10; faces = 6 }
