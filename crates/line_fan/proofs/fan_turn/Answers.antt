-- `line_fan::fan_turn` meets its contract. Assumes nothing.
use borrow.Author.Rules.{rules}
use Rattle.line_fan.proofs.TurnRows.{single-ready, turned-row}
use Rattle.line_fan.proofs.fan_turn.Goals as goal

pub create_single_face_between_edge_and_next-new-requires : goal.create_single_face_between_edge_and_next-new-requires
create_single_face_between_edge_and_next-new-requires c =
    single-ready c.requires c.beside-d.ensures
    c.face_edge-at.ensures

pub returns : goal.returns
returns c =
    turned-row c.requires c.beside-d.ensures
    c.face_edge-at.ensures
    c.create_single_face_between_edge_and_next-new.ensures
