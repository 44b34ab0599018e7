-- Lists of points by computation, the rows as an independent reading of 02 has them: points on a line in mixed order, one
-- on a vertex, and one off the line from either side. Assumes nothing.
use Rattle.std.specs.Prelude.{List, [], ◌∷◌, ◌≡◌, refl, ℕ, zero, suc, ◌*◌, ℤ, pos, negsuc}
use Rattle.apply.specs.Apply.{first_face, face_edge}
use Rattle.legalize.specs.Legalize.{entry_edge, pushed, flipped, popped, legalize}
use Rattle.math.specs.declared.Point.{Point}
use Rattle.math.specs.Determinant.{orient2d, incircle, height, by_sign}
use Rattle.mesh.specs.declared.Counts.{Counts}
use Rattle.mesh.specs.Mesh.{Links}
use Rattle.mesh.specs.Operations.{face_between, create_single_face_between_edge_and_next, face_adjacent, create_new_face_adjacent_to_edge}
use Rattle.mesh.specs.Area.{over_faces, circle_at}
use Rattle.mesh.specs.Circle.{breaks_circle}
use Rattle.skipped.specs.Insert.{unflipped, legalize_one, cover_edge, outside_ends, outside_turn, outside_walk, insert_outside}
use Rattle.ring.specs.Chain.{beside}
use Rattle.sums.specs.Bounded.{all_below, first_below}
use Rattle.sums.specs.Half.{rev}
use Rattle.sums.specs.Put.{put}
use Rattle.sums.specs.Sum.{sum}
use Rattle.sums.specs.Until.{until, when}
use Rattle.line.specs.Operations.{setup_initial_two_vertices, extend_at, extend_line, split_at_of, split_edge_when_all_vertices_on_line}
use Rattle.line.specs.Order.{comes_before, is_same_of}
use Rattle.line.specs.Locate.{none_between, vertex_on, last_before, first_after, edge_from_neighbors, locate_on_line, locate_when_all_vertices_on_line}
use Rattle.line.specs.Grow.{Growing, insert_first_vertex, insert_second_vertex, insert_at_line_place, insert_when_all_vertices_on_line, insert_by_count, grow_point}

abbrev at : ℤ → ℤ → Point
at x y = record { x = x; y = y }

-- the first values of a link, as a row has them
row_of : ℕ → (ℕ → ℕ) → List ℕ
row_of zero f = []
row_of (suc n) f = f 0 ∷ row_of n (λ i. f (suc i))

-- fate, vertex, faces, flips; then next, prev, face, origin of each half-edge, the out edges and the stored edges
rows : Growing → List (List ℕ)
rows g =
    let C = g.mesh.counts in let L = g.mesh.links in
    (g.fate ∷ g.vertex ∷ g.mesh.faces ∷ g.mesh.flips ∷ [])
    ∷ row_of (2 * C.edges) L.next ∷ row_of (2 * C.edges) L.prev ∷ row_of (2 * C.edges) L.face ∷ row_of (2 * C.edges) L.origin
    ∷ row_of C.vertices L.out ∷ row_of C.faces L.adjacent ∷ []

empty : Growing
empty = record {
  fate = 0;
  vertex = 0;
  positions = λ v. at (pos 0) (pos 0);
  mesh = unflipped (record { vertices = 0; edges = 0; faces = 0 }) (record {
    next = λ x. 0;
    prev = λ x. 0;
    face = λ x. 0;
    origin = λ x. 0;
    out = λ x. 0;
    adjacent = λ x. 0;
  }) 0;
}

grown : Growing → List Point → Growing
grown g [] = g
grown g (q ∷ l) = grown (grow_point 8 g q) l

abbrev five : List Point
five = at (pos 0) (pos 0) ∷ at (pos 4) (pos 2) ∷ at (pos 2) (pos 1) ∷ at (negsuc 1) (negsuc 0) ∷ at (pos 6) (pos 3) ∷ []

-- ---- on the line: the second point, one between, one beyond each end, and one on a vertex
on_line : rows (grow_point 8 (grown empty five) (at (pos 2) (pos 1)))
    ≡ (9 ∷ 2 ∷ 0 ∷ 0 ∷ [])
    ∷ (7 ∷ 2 ∷ 5 ∷ 0 ∷ 3 ∷ 4 ∷ 1 ∷ 6 ∷ [])
    ∷ (3 ∷ 6 ∷ 1 ∷ 4 ∷ 5 ∷ 2 ∷ 7 ∷ 0 ∷ [])
    ∷ (0 ∷ 0 ∷ 0 ∷ 0 ∷ 0 ∷ 0 ∷ 0 ∷ 0 ∷ [])
    ∷ (2 ∷ 1 ∷ 2 ∷ 0 ∷ 3 ∷ 0 ∷ 4 ∷ 1 ∷ [])
    ∷ (3 ∷ 1 ∷ 2 ∷ 4 ∷ 6 ∷ [])
    ∷ (0 ∷ []) ∷ []
unfolding rows row_of empty grown put rev orient2d all_below first_below comes_before is_same_of none_between vertex_on last_before first_after edge_from_neighbors locate_on_line by_sign locate_when_all_vertices_on_line setup_initial_two_vertices extend_at extend_line split_at_of split_edge_when_all_vertices_on_line insert_first_vertex insert_second_vertex insert_at_line_place insert_when_all_vertices_on_line insert_by_count insert_outside outside_walk outside_turn outside_ends cover_edge legalize_one first_face face_edge face_between create_single_face_between_edge_and_next face_adjacent create_new_face_adjacent_to_edge legalize popped flipped pushed entry_edge breaks_circle circle_at incircle over_faces sum height until when
on_line = refl

-- ---- off the line, at half-edge 0: four faces, no flip
off-left : rows (grow_point 8 (grown empty five) (at (pos 1) (pos 3)))
    ≡ (1 ∷ 5 ∷ 4 ∷ 0 ∷ [])
    ∷ (8 ∷ 2 ∷ 5 ∷ 11 ∷ 13 ∷ 15 ∷ 1 ∷ 16 ∷ 10 ∷ 7 ∷ 0 ∷ 12 ∷ 3 ∷ 14 ∷ 4 ∷ 17 ∷ 9 ∷ 6 ∷ [])
    ∷ (10 ∷ 6 ∷ 1 ∷ 12 ∷ 14 ∷ 2 ∷ 17 ∷ 9 ∷ 0 ∷ 16 ∷ 8 ∷ 3 ∷ 11 ∷ 4 ∷ 13 ∷ 5 ∷ 7 ∷ 15 ∷ [])
    ∷ (1 ∷ 0 ∷ 0 ∷ 2 ∷ 3 ∷ 0 ∷ 0 ∷ 4 ∷ 1 ∷ 4 ∷ 1 ∷ 2 ∷ 2 ∷ 3 ∷ 3 ∷ 0 ∷ 4 ∷ 0 ∷ [])
    ∷ (2 ∷ 1 ∷ 2 ∷ 0 ∷ 3 ∷ 0 ∷ 4 ∷ 1 ∷ 1 ∷ 5 ∷ 5 ∷ 2 ∷ 5 ∷ 0 ∷ 5 ∷ 3 ∷ 4 ∷ 5 ∷ [])
    ∷ (3 ∷ 1 ∷ 2 ∷ 4 ∷ 6 ∷ 10 ∷ [])
    ∷ (17 ∷ 0 ∷ 12 ∷ 14 ∷ 16 ∷ []) ∷ []
unfolding rows row_of empty grown put rev orient2d all_below first_below comes_before is_same_of none_between vertex_on last_before first_after edge_from_neighbors locate_on_line by_sign locate_when_all_vertices_on_line setup_initial_two_vertices extend_at extend_line split_at_of split_edge_when_all_vertices_on_line insert_first_vertex insert_second_vertex insert_at_line_place insert_when_all_vertices_on_line insert_by_count insert_outside outside_walk outside_turn outside_ends cover_edge legalize_one first_face face_edge face_between create_single_face_between_edge_and_next face_adjacent create_new_face_adjacent_to_edge legalize popped flipped pushed entry_edge breaks_circle circle_at incircle over_faces sum height until when
off-left = refl

-- ---- off the line, at half-edge 1: the first two points the other way round
off-right : rows (grown empty (at (pos 4) (pos 2) ∷ at (pos 0) (pos 0) ∷ at (pos 2) (pos 1) ∷ at (pos 6) (pos 3) ∷ at (pos 1) (pos 3) ∷ []))
    ≡ (1 ∷ 4 ∷ 3 ∷ 0 ∷ [])
    ∷ (2 ∷ 6 ∷ 11 ∷ 9 ∷ 0 ∷ 12 ∷ 8 ∷ 5 ∷ 1 ∷ 10 ∷ 3 ∷ 13 ∷ 7 ∷ 4 ∷ [])
    ∷ (4 ∷ 8 ∷ 0 ∷ 10 ∷ 13 ∷ 7 ∷ 1 ∷ 12 ∷ 6 ∷ 3 ∷ 9 ∷ 2 ∷ 5 ∷ 11 ∷ [])
    ∷ (0 ∷ 1 ∷ 0 ∷ 2 ∷ 0 ∷ 3 ∷ 1 ∷ 3 ∷ 1 ∷ 2 ∷ 2 ∷ 0 ∷ 3 ∷ 0 ∷ [])
    ∷ (0 ∷ 2 ∷ 2 ∷ 1 ∷ 3 ∷ 0 ∷ 0 ∷ 4 ∷ 4 ∷ 2 ∷ 4 ∷ 1 ∷ 3 ∷ 4 ∷ [])
    ∷ (0 ∷ 3 ∷ 2 ∷ 4 ∷ 8 ∷ [])
    ∷ (13 ∷ 1 ∷ 10 ∷ 12 ∷ []) ∷ []
unfolding rows row_of empty grown put rev orient2d all_below first_below comes_before is_same_of none_between vertex_on last_before first_after edge_from_neighbors locate_on_line by_sign locate_when_all_vertices_on_line setup_initial_two_vertices extend_at extend_line split_at_of split_edge_when_all_vertices_on_line insert_first_vertex insert_second_vertex insert_at_line_place insert_when_all_vertices_on_line insert_by_count insert_outside outside_walk outside_turn outside_ends cover_edge legalize_one first_face face_edge face_between create_single_face_between_edge_and_next face_adjacent create_new_face_adjacent_to_edge legalize popped flipped pushed entry_edge breaks_circle circle_at incircle over_faces sum height until when
off-right = refl
