-- `line_fan::insert_off_line` meets its contract. Assumes nothing.
use borrow.Author.Rules.{rules}
use mathlib.Core.Path.{◌∙◌}
use Rattle.line_fan.proofs.InsertRows.{new-ready, left-ready, right-ready, inserted-rows}
use Rattle.line_fan.proofs.insert_off_line.Goals as goal

pub create_new_face_adjacent_to_edge-after-requires : goal.create_new_face_adjacent_to_edge-after-requires
create_new_face_adjacent_to_edge-after-requires c = new-ready c.requires

pub fan_walk-left-requires : goal.fan_walk-left-requires
fan_walk-left-requires c =
    left-ready c.requires c.create_new_face_adjacent_to_edge-after.ensures c.create_new_face_adjacent_to_edge-after.auto.halves c.create_new_face_adjacent_to_edge-after.auto.faces

pub fan_walk-right-requires : goal.fan_walk-right-requires
fan_walk-right-requires c =
    right-ready c.requires c.create_new_face_adjacent_to_edge-after.ensures _ _ _ c.fan_walk-left.ensures (c.fan_walk-left.auto.halves ∙ c.create_new_face_adjacent_to_edge-after.auto.halves) (c.fan_walk-left.auto.faces ∙ c.create_new_face_adjacent_to_edge-after.auto.faces)

pub returns : goal.returns
returns c =
    inserted-rows c.requires c.create_new_face_adjacent_to_edge-after.ensures _ _ _ c.fan_walk-left.ensures _ _ _ c.fan_walk-right.ensures
