-- `apply_rows::first_face` meets its contract. Assumes nothing.
use Rattle.apply_rows.proofs.FirstRows.{new-ready, legalize-first, first-row}
use Rattle.apply_rows.proofs.first_face.Goals as goal

pub create_new_face_adjacent_to_edge-after-requires : goal.create_new_face_adjacent_to_edge-after-requires
create_new_face_adjacent_to_edge-after-requires c = new-ready c.requires

pub legalize_edge-done-requires : goal.legalize_edge-done-requires
legalize_edge-done-requires c =
    legalize-first c.requires c.create_new_face_adjacent_to_edge-after.ensures c.create_new_face_adjacent_to_edge-after.auto.outs c.create_new_face_adjacent_to_edge-after.auto.halves c.create_new_face_adjacent_to_edge-after.auto.faces

pub returns : goal.returns
returns c = first-row c.requires c.create_new_face_adjacent_to_edge-after.ensures _ _ _ _ _ c.legalize_edge-done.ensures
