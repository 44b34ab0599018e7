-- THE THEOREM: the marked examples of 01, M1 to M10, all together: each by computation from the definitions, but for the last, which is
-- a law. The definitions that are computed with stand below it, a line or two for each crate. Assumes nothing.
use Rattle.std.specs.Prelude.{refl}
use Rattle.std.specs.Float.Ieee.{of_int, neg, add, sub, mul, div, sum, round, units, odd, size, span, climb, lt}
use Rattle.sweep.specs.Run.{sweep_point, sweep_after, is_skipped, complete_after, answer_word, answers_after, completed_answers}
use Rattle.sweep.specs.Run.{run_checked, run_outcome, run_of}
use Rattle.skipped.specs.Fill.{fill_point, fill_after, insert_word, fill_from, convex_after, complete_mesh}
use Rattle.skipped.specs.Insert.{legalize_one, legalize_each, inner_nexts, star_edges, legalize_vertex}
use Rattle.skipped.specs.Insert.{insert_into_face, insert_in_edge, cover_edge, outside_ends, outside_turn, outside_walk, insert_outside}
use Rattle.skipped.specs.Insert.{position_fate, position_vertex, is_new, places_at, mesh_at, insert_point}
use Rattle.insertion.specs.Operations.{into_triangle, insert_into_triangle, edge_between, split_edge}
use Rattle.insertion.specs.Operations.{half_edge_between, split_half_edge, insert_on_edge, with_edge_vertex}
use Rattle.location.specs.Search.{first_closer, is_nearest, nearer, nearest, beyond, across_edge, rotate_ccw, rotate_cw, on_line_of, by_side, search_turn}
use Rattle.location.specs.Search.{ended, advance, search_from}
use Rattle.location.specs.Scan as scans
use Rattle.sweep.specs.SeedTriangle.{seed_outs_of, seed_halves_of, seed_faces_of}
use Rattle.sweep.specs.Step.{is_added, left_alone_of, added_at, applied_by, applied, step_mesh}
use Rattle.start.specs.Start.{sweep_rows_short, sweep_checked}
use Rattle.decide.specs.Decide.{fate_number, fate_vertex, at_end, fate_at, if_added, decided_at, decided}
use Rattle.apply.specs.Apply.{first_face, walk_ends_of, walk, add_vertex}
use Rattle.convexity.specs.Convexity.{turns_left_at, last_turns_left, close_corners}
use Rattle.convexity.specs.Convexity.{pass_turn, is_second, fix_convexity, pass_again, convexity}
use Rattle.closing.specs.Closing.{close_edge, close_below, close_turn, closing_pass}
use Rattle.finish.specs.Finish.{close_after, finish_mesh, totals_from, finished_from}
use Rattle.legalize.specs.Legalize.{entry_edge, pushed, flipped, popped, legalize}
use Rattle.mesh.specs.Operations.{flip_between, flip_cw}
use Rattle.mesh.specs.Operations.{face_adjacent, create_new_face_adjacent_to_edge}
use Rattle.mesh.specs.Area.{boundary_length, over_faces, circle_at}
use Rattle.mesh.specs.Circle.{breaks_circle}
use Rattle.mesh.specs.Rules.{half_edge_in_use, links_in_use, half_edge_linked, inner_face_rule}
use Rattle.mesh.specs.Rules.{outer_face_rule, side_rule, vertex_rule, euler_rule, rules}
use Rattle.mesh_check.specs.Check.{count_refused, mesh_rows_short, first_outside, vertex_or_point, turns_left, first_not_left, and_then, check_range, check_faces, check_mesh}
use Rattle.mesh_check.specs.Check.{point_count, vertex_count, rows_short, check_with}
use Rattle.locate.specs.Locate.{ring_rows_short, check_ring, check_start, check_angle, place_at_of, locate_outcome, locate_of}
use Rattle.ring.specs.Center.{turns_about, refuses_center, refuses_ring}
use Rattle.ring.specs.Chain.{covers_left, covers_right, left_chain, right_chain, angles_after, sound_after}
use Rattle.ring.specs.Ring.{wraps, count_before, count_around, merged_before, merged, member, all_differ, is_sound, is_strict}
use Rattle.ring.specs.Ring.{passed_count, boundary_edges, boundary_angles, is_strict_ring, located}
use Rattle.ring_rows.specs.RingRows.{ring_zeros}
use Rattle.segment.specs.Arc.{holds, gap, wide}
use Rattle.angle.specs.Angle.{absolute_of, slope, of_diff, pseudo_angle, angle_about, bounded, valid_center, is_number, at_center, valid_angle}
use Rattle.dcel.specs.MeshRows.{mesh_rows_from}
use Rattle.dcel.specs.Rows.{halves_of, row_of, position_of, links_of, row_from_of, field, halves_in, halves_from, coordinate, positions_from}
use Rattle.math.specs.Determinant.{orient2d, by_sign, incircle, height, factor, length2, is_coordinate, is_position}
use Rattle.sums.specs.Bounded.{all_below, any_below, first_below}
use Rattle.sums.specs.Half.{rev}
use Rattle.sums.specs.Iterate.{reaches, period_below}
use Rattle.sums.specs.Put.{put}
use Rattle.sums.specs.Until.{when, until}
use Rattle.angle.specs.Angle as angle
use Rattle.sums.specs.Sum as sums
use Rattle.sums.specs.Tally as tallies
use Rattle.marked.specs.Marked.{Marked}
use Rattle.marked.specs.NoPoints.{no-points}

pub marked : Marked
unfolding seed_outs_of seed_halves_of seed_faces_of
    sweep_point sweep_after is_skipped complete_after answer_word answers_after completed_answers run_checked run_outcome run_of
    fill_point fill_after insert_word fill_from convex_after complete_mesh
    legalize_one legalize_each inner_nexts star_edges legalize_vertex
    insert_into_face insert_in_edge cover_edge outside_ends outside_turn outside_walk insert_outside
    position_fate position_vertex is_new places_at mesh_at insert_point
    into_triangle insert_into_triangle edge_between split_edge half_edge_between split_half_edge insert_on_edge with_edge_vertex
    first_closer is_nearest nearer nearest beyond across_edge rotate_ccw rotate_cw on_line_of by_side by_sign search_turn ended advance search_from
    scans.holds_at scans.place_at_of scans.first_holding scans.first_left scans.scan scans.answer scans.locate_point
    is_added left_alone_of added_at applied_by applied step_mesh
    sweep_rows_short sweep_checked
    fate_number fate_vertex is_coordinate is_position at_end fate_at if_added decided_at decided
    first_face walk_ends_of walk add_vertex
    turns_left_at last_turns_left close_corners pass_turn is_second fix_convexity pass_again convexity
    close_edge close_below close_turn closing_pass
    close_after finish_mesh totals_from finished_from
    entry_edge pushed flipped popped legalize
    flip_between flip_cw face_adjacent create_new_face_adjacent_to_edge boundary_length over_faces circle_at breaks_circle
    half_edge_in_use links_in_use half_edge_linked inner_face_rule outer_face_rule side_rule vertex_rule euler_rule rules
    count_refused mesh_rows_short first_outside vertex_or_point turns_left first_not_left and_then check_range check_faces check_mesh
    point_count vertex_count rows_short check_with
    ring_rows_short check_ring check_start check_angle place_at_of locate_outcome locate_of
    turns_about refuses_center refuses_ring covers_left covers_right left_chain right_chain angles_after sound_after
    wraps count_before count_around merged_before merged member all_differ is_sound is_strict
    passed_count boundary_edges boundary_angles is_strict_ring located
    ring_zeros holds gap wide
    absolute_of slope of_diff pseudo_angle angle_about bounded valid_center is_number at_center valid_angle
    mesh_rows_from halves_of row_of position_of links_of row_from_of field halves_in halves_from coordinate positions_from
    orient2d incircle height factor length2
    all_below any_below first_below rev reaches period_below put when until
    sums.sum tallies.walk angle.turns
    of_int neg add sub mul div sum round units odd size span climb lt
marked = (
  (refl, refl, refl, refl, refl, refl),
  refl,
  refl,
  (refl, refl, refl, refl, refl),
  (refl, refl, refl, refl),
  (refl, refl),
  refl,
  (refl, refl),
  refl,
  no-points,
)
