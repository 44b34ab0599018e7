-- Laws of specs/Examples.antt.
use Rattle.std.specs.Prelude.{false, true, ◌≡◌, refl, [], ◌∷◌, ℕ, ℤ, pos, negsuc, get_or}
use Rattle.sums.specs.Bounded.{all_below, first_below, count}
use Rattle.sums.specs.Half.{rev}
use Rattle.sums.specs.Iterate.{reaches, period_below}
use Rattle.sums.specs.Until.{until, when}
use Rattle.math.specs.declared.Point.{Point}
use Rattle.math.specs.Determinant.{orient2d, by_sign, is_position, is_coordinate}
use Rattle.math.specs.Vector.{difference, cross_of, dot_of}
use Rattle.mesh.specs.declared.Counts.{Counts}
use Rattle.mesh.specs.Mesh.{Links}
use Rattle.mesh.specs.Wf.{Wf}
use Rattle.mesh.specs.Rules.{half_edge_in_use, links_in_use, half_edge_linked, inner_face_rule, outer_face_rule, side_rule, vertex_rule, euler_rule, rules}
use Rattle.mesh.proofs.RulesWf.{rules-wf}
use Rattle.mesh.specs.Area.{boundary_length}
use Rattle.outline.specs.Outline.{upper, count_boundary, direction, falls_next}
use Rattle.walkable.specs.Walkable.{Walkable}
use Rattle.location.specs.declared.PositionInTriangulation.TheVariants.{OnFace}
use Rattle.location.specs.declared.SearchState.TheVariants.{Found}
use Rattle.location.specs.Search.{beyond, across_edge, rotate_ccw, rotate_cw, on_line_of, by_side, search_turn, ended, advance, search_from}
use Rattle.nearby.specs.Test.{is_right_turn, is_walkable}
use Rattle.nearby.proofs.TestLaws.{tested-walkable}
use Rattle.nearby.specs.Examples.{wheel_counts, fan_counts}

abbrev at : ℤ → ℤ → Point
at x y = record { x = x; y = y }

unfoldable wheel : Links
wheel = record {
  next = λ x. get_or (10 ∷ 7 ∷ 12 ∷ 1 ∷ 14 ∷ 3 ∷ 8 ∷ 5 ∷ 15 ∷ 0 ∷ 9 ∷ 2 ∷ 11 ∷ 4 ∷ 13 ∷ 6 ∷ []) x 0;
  prev = λ x. get_or (9 ∷ 3 ∷ 11 ∷ 5 ∷ 13 ∷ 7 ∷ 15 ∷ 1 ∷ 6 ∷ 10 ∷ 0 ∷ 12 ∷ 2 ∷ 14 ∷ 4 ∷ 8 ∷ []) x 0;
  face = λ x. get_or (1 ∷ 0 ∷ 2 ∷ 0 ∷ 3 ∷ 0 ∷ 4 ∷ 0 ∷ 4 ∷ 1 ∷ 1 ∷ 2 ∷ 2 ∷ 3 ∷ 3 ∷ 4 ∷ []) x 0;
  origin = λ x. get_or (0 ∷ 1 ∷ 1 ∷ 2 ∷ 2 ∷ 3 ∷ 3 ∷ 0 ∷ 0 ∷ 4 ∷ 1 ∷ 4 ∷ 2 ∷ 4 ∷ 3 ∷ 4 ∷ []) x 0;
  out = λ x. get_or (0 ∷ 2 ∷ 4 ∷ 6 ∷ 9 ∷ []) x 0;
  adjacent = λ x. get_or (1 ∷ 0 ∷ 2 ∷ 4 ∷ 6 ∷ []) x 0;
}

unfoldable corners : ℕ → Point
corners i = get_or (at (pos 0) (pos 0) ∷ at (pos 4) (pos 0) ∷ at (pos 4) (pos 4) ∷ at (pos 0) (pos 4) ∷ at (pos 2) (pos 2) ∷ []) i (at (pos 0) (pos 0))

wheel-wf : Wf wheel_counts wheel
unfolding wheel rules half_edge_in_use links_in_use half_edge_linked inner_face_rule outer_face_rule side_rule vertex_rule euler_rule all_below reaches rev
wheel-wf = rules-wf wheel_counts wheel tt

wheel-passes : is_walkable wheel_counts wheel corners ≡ true
unfolding wheel corners cross_of dot_of difference rev all_below boundary_length period_below first_below count_boundary count falls_next direction upper is_right_turn is_walkable
wheel-passes = refl

wheel-walkable : Walkable wheel_counts wheel corners
wheel-walkable = tested-walkable wheel-wf corners (rw wheel-passes tt)

unfoldable fan : Links
fan = record {
  next = λ x. get_or (10 ∷ 8 ∷ 12 ∷ 0 ∷ 14 ∷ 2 ∷ 16 ∷ 4 ∷ 18 ∷ 6 ∷ 3 ∷ 19 ∷ 5 ∷ 11 ∷ 7 ∷ 13 ∷ 9 ∷ 15 ∷ 1 ∷ 17 ∷ []) x 0;
  prev = λ x. get_or (3 ∷ 18 ∷ 5 ∷ 10 ∷ 7 ∷ 12 ∷ 9 ∷ 14 ∷ 1 ∷ 16 ∷ 0 ∷ 13 ∷ 2 ∷ 15 ∷ 4 ∷ 17 ∷ 6 ∷ 19 ∷ 8 ∷ 11 ∷ []) x 0;
  face = λ x. get_or (1 ∷ 5 ∷ 2 ∷ 1 ∷ 3 ∷ 2 ∷ 4 ∷ 3 ∷ 5 ∷ 4 ∷ 1 ∷ 0 ∷ 2 ∷ 0 ∷ 3 ∷ 0 ∷ 4 ∷ 0 ∷ 5 ∷ 0 ∷ []) x 0;
  origin = λ x. get_or (5 ∷ 0 ∷ 5 ∷ 1 ∷ 5 ∷ 2 ∷ 5 ∷ 3 ∷ 5 ∷ 4 ∷ 0 ∷ 1 ∷ 1 ∷ 2 ∷ 2 ∷ 3 ∷ 3 ∷ 4 ∷ 4 ∷ 0 ∷ []) x 0;
  out = λ x. get_or (10 ∷ 12 ∷ 14 ∷ 16 ∷ 18 ∷ 0 ∷ []) x 0;
  adjacent = λ x. get_or (11 ∷ 0 ∷ 2 ∷ 4 ∷ 6 ∷ 8 ∷ []) x 0;
}

unfoldable star : ℕ → Point
star i = get_or (at (pos 20) (pos 10) ∷ at (negsuc 19) (pos 0) ∷ at (pos 20) (negsuc 9) ∷ at (negsuc 19) (pos 20) ∷ at (negsuc 19) (negsuc 19) ∷ at (pos 0) (pos 0) ∷ []) i (at (pos 0) (pos 0))

fan-fails : is_walkable fan_counts fan star ≡ false
unfolding fan star cross_of dot_of difference rev all_below boundary_length period_below first_below count_boundary count falls_next direction upper is_right_turn is_walkable
fan-fails = refl

-- (-10, -1) is strictly inside triangles 2 and 4: each is the answer from its own edge
fan-two : search_from fan_counts fan star (at (negsuc 9) (negsuc 0)) 2 ≡ Found (OnFace 2)
unfolding fan star orient2d by_sign rev is_coordinate until when is_position beyond across_edge rotate_ccw rotate_cw on_line_of by_side search_turn ended advance search_from
fan-two = refl

fan-four : search_from fan_counts fan star (at (negsuc 9) (negsuc 0)) 6 ≡ Found (OnFace 4)
unfolding fan star orient2d by_sign rev is_coordinate until when is_position beyond across_edge rotate_ccw rotate_cw on_line_of by_side search_turn ended advance search_from
fan-four = refl
