-- `corner::close_corner` meets its contract. Assumes nothing.
use Rattle.corner.proofs.Rows.{single-ready, legalize-ready, faces-fit-32, closed-row}
use Rattle.corner.proofs.close_corner.Goals as goal

pub create_single_face_between_edge_and_next-new-requires : goal.create_single_face_between_edge_and_next-new-requires
create_single_face_between_edge_and_next-new-requires c = single-ready c.requires

pub legalize_edges_after_removal-done-requires : goal.legalize_edges_after_removal-done-requires
legalize_edges_after_removal-done-requires c =
    legalize-ready c.requires c.create_single_face_between_edge_and_next-new.ensures c.create_single_face_between_edge_and_next-new.auto.halves c.create_single_face_between_edge_and_next-new.auto.faces

pub overflow_add-result : goal.overflow_add-result
overflow_add-result c = record { fits = faces-fit-32 c.requires }

pub returns : goal.returns
returns c = closed-row c.requires c.create_single_face_between_edge_and_next-new.ensures _ _ _ _ _ c.legalize_edges_after_removal-done.ensures
