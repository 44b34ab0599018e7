-- `insert_outside::cover_edge` meets its contract. Assumes nothing.
use borrow.Author.Rules.{rules}
use Rattle.insert_outside.proofs.CoverRows.{single-ready, legalize-ready, faces-fit-32, covered-row}
use Rattle.insert_outside.proofs.cover_edge.Goals as goal

pub create_single_face_between_edge_and_next-new-requires : goal.create_single_face_between_edge_and_next-new-requires
create_single_face_between_edge_and_next-new-requires c = single-ready c.requires

pub legalize_edge-done-requires : goal.legalize_edge-done-requires
legalize_edge-done-requires c =
    legalize-ready c.requires c.create_single_face_between_edge_and_next-new.ensures c.create_single_face_between_edge_and_next-new.auto.halves c.create_single_face_between_edge_and_next-new.auto.faces

pub overflow_add-result : goal.overflow_add-result
overflow_add-result c = record { fits = faces-fit-32 c.requires }

pub returns : goal.returns
returns c =
    covered-row c.requires c.create_single_face_between_edge_and_next-new.ensures _ _ _ _ _ c.legalize_edge-done.ensures
