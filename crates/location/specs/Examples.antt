-- Point location by computation: each kind of answer, from the search and from the scan, in a square of side 4 with its
-- centre; and a mesh that overlaps itself. Assumes nothing.
use Rattle.std.specs.Prelude.{◌≡◌, refl, Bool, false, [], ◌∷◌, ℕ, zero, suc, ◌<◌, T, ltb, get_or, ℤ, pos, negsuc, ◌<ℤ◌}
use Rattle.std.proofs.Common.{arith, lit<}
use Rattle.std.specs.Int.Signed.{lt_z, lt_z_yes}
use Rattle.sums.specs.Bit.{implies}
use Rattle.sums.proofs.BitLaws.{implies→, lt?, sure}
use Rattle.sums.specs.Bounded.{all_below, first_below}
use Rattle.sums.proofs.BoundedLaws.{all-below→}
use Rattle.sums.specs.Half.{rev}
use Rattle.sums.specs.Iterate.{reaches, period_below}
use Rattle.sums.specs.Until.{until, when}
use Rattle.math.specs.declared.Point.{Point}
use Rattle.math.specs.Determinant.{orient2d, by_sign, length2, is_position, is_coordinate}
use Rattle.mesh.specs.declared.Counts.{Counts}
use Rattle.mesh.specs.Mesh.{Links}
use Rattle.mesh.specs.Wf.{Wf}
use Rattle.mesh.specs.Area.{at_corners, LeftTurning, boundary_length}
use Rattle.mesh.specs.Rules.{half_edge_in_use, links_in_use, half_edge_linked, inner_face_rule, outer_face_rule, side_rule, vertex_rule, euler_rule, rules}
use Rattle.mesh.proofs.RulesWf.{rules-wf}
use Rattle.location.specs.declared.PositionInTriangulation.{PositionInTriangulation}
use Rattle.location.specs.declared.PositionInTriangulation.TheVariants.{OnVertex, OnFace, OnEdge, OutsideOfConvexHull}
use Rattle.location.specs.declared.SearchState.TheVariants.{Onward}
use Rattle.location.specs.Place.{InFace, InEdge}
use Rattle.location.specs.Search.{first_closer, is_nearest, nearer, nearest, beyond, across_edge, rotate_ccw, rotate_cw, on_line_of, by_side, search_turn, ended, advance, search_from}
use Rattle.location.specs.Scan.{holds_at, place_at_of, first_holding, first_left, scan, answer, locate_point}

abbrev pub at : ℤ → ℤ → Point
at x y = record { x = x; y = y }

-- ---- the square: vertices 0 to 3 round it, 4 the centre; edge u of the square from u to u + 1 is half-edge 2u, the
-- spoke from u to the centre 8 + 2u; face u + 1 on edge u
abbrev pub wheel_counts : Counts
wheel_counts = record { vertices = 5; edges = 8; faces = 5 }

-- ---- a mesh of nine vertices, whose triangles do not overlap, where the rotating walk goes round for ever: the scan answers
abbrev pub pinwheel_counts : Counts
pinwheel_counts = record { vertices = 9; edges = 21; faces = 14 }

unfoldable pub pinwheel : Links
pinwheel = record {
  next = λ x. get_or (2 ∷ 12 ∷ 4 ∷ 27 ∷ 0 ∷ 34 ∷ 8 ∷ 19 ∷ 10 ∷ 23 ∷ 6 ∷ 26 ∷ 14 ∷ 5 ∷ 1 ∷ 18 ∷ 15 ∷ 11 ∷ 16 ∷ 25 ∷ 22 ∷ 36 ∷ 24 ∷ 31 ∷ 20 ∷ 7 ∷ 17 ∷ 29 ∷ 30 ∷ 3 ∷ 32 ∷ 9 ∷ 28 ∷ 39 ∷ 13 ∷ 40 ∷ 38 ∷ 35 ∷ 21 ∷ 41 ∷ 37 ∷ 33 ∷ []) x 0;
  prev = λ x. get_or (4 ∷ 14 ∷ 0 ∷ 29 ∷ 2 ∷ 13 ∷ 10 ∷ 25 ∷ 6 ∷ 31 ∷ 8 ∷ 17 ∷ 1 ∷ 34 ∷ 12 ∷ 16 ∷ 18 ∷ 26 ∷ 15 ∷ 7 ∷ 24 ∷ 38 ∷ 20 ∷ 9 ∷ 22 ∷ 19 ∷ 11 ∷ 3 ∷ 32 ∷ 27 ∷ 28 ∷ 23 ∷ 30 ∷ 41 ∷ 5 ∷ 37 ∷ 21 ∷ 40 ∷ 36 ∷ 33 ∷ 35 ∷ 39 ∷ []) x 0;
  face = λ x. get_or (1 ∷ 3 ∷ 1 ∷ 12 ∷ 1 ∷ 8 ∷ 2 ∷ 11 ∷ 2 ∷ 0 ∷ 2 ∷ 6 ∷ 3 ∷ 8 ∷ 3 ∷ 4 ∷ 4 ∷ 6 ∷ 4 ∷ 11 ∷ 5 ∷ 9 ∷ 5 ∷ 0 ∷ 5 ∷ 11 ∷ 6 ∷ 12 ∷ 7 ∷ 12 ∷ 7 ∷ 0 ∷ 7 ∷ 13 ∷ 8 ∷ 10 ∷ 9 ∷ 10 ∷ 9 ∷ 13 ∷ 10 ∷ 13 ∷ []) x 0;
  origin = λ x. get_or (2 ∷ 7 ∷ 7 ∷ 4 ∷ 4 ∷ 2 ∷ 1 ∷ 6 ∷ 6 ∷ 5 ∷ 5 ∷ 1 ∷ 2 ∷ 3 ∷ 3 ∷ 7 ∷ 1 ∷ 7 ∷ 3 ∷ 1 ∷ 3 ∷ 8 ∷ 8 ∷ 6 ∷ 6 ∷ 3 ∷ 5 ∷ 7 ∷ 4 ∷ 5 ∷ 5 ∷ 8 ∷ 8 ∷ 4 ∷ 4 ∷ 3 ∷ 3 ∷ 0 ∷ 0 ∷ 8 ∷ 4 ∷ 0 ∷ []) x 0;
  out = λ x. get_or (37 ∷ 6 ∷ 0 ∷ 13 ∷ 3 ∷ 9 ∷ 7 ∷ 17 ∷ 21 ∷ []) x 0;
  adjacent = λ x. get_or (9 ∷ 0 ∷ 6 ∷ 1 ∷ 16 ∷ 20 ∷ 11 ∷ 28 ∷ 13 ∷ 36 ∷ 37 ∷ 19 ∷ 29 ∷ 39 ∷ []) x 0;
}

unfoldable pub blades : ℕ → Point
blades i = get_or (at (pos 4) (pos 7) ∷ at (negsuc 7) (pos 0) ∷ at (pos 1) (negsuc 0) ∷ at (pos 1) (pos 1) ∷ at (pos 4) (negsuc 6) ∷ at (pos 10) (negsuc 14) ∷ at (negsuc 17) (negsuc 0) ∷ at (negsuc 1) (pos 0) ∷ at (pos 8) (pos 16) ∷ []) i (at (pos 0) (pos 0))

unfoldable pub pinwheel_left : ℕ → Bool
pinwheel_left f = implies (ltb 0 f) (lt_z (pos 0) (at_corners orient2d pinwheel blades (pinwheel.adjacent f)))

-- ---- a mesh that overlaps itself: the search answers that the point is beyond an edge of triangle 1, though triangle
-- 3 holds it. Both are true
abbrev pub fold_counts : Counts
fold_counts = record { vertices = 5; edges = 7; faces = 4 }
