-- `insert::insert_into_face` meets its contract. Assumes nothing.
use borrow.Author.Rules.{rules}
use mathlib.Core.Path.{refl, ◌∙◌}
use Rattle.insert.proofs.FaceRows.{face-here, face-first, face-second, face-operation, face-two, face-one, face-row}
use Rattle.insert.proofs.insert_into_face.Goals as goal

pub adjacent-e0-requires : goal.adjacent-e0-requires
adjacent-e0-requires c = face-here c.requires

pub next-e1-requires : goal.next-e1-requires
next-e1-requires c = face-first c.requires c.adjacent-e0.ensures

pub next-e2-requires : goal.next-e2-requires
next-e2-requires c = face-second c.requires c.adjacent-e0.ensures c.next-e1.ensures

pub insert_into_triangle-after-requires : goal.insert_into_triangle-after-requires
insert_into_triangle-after-requires c = face-operation c.requires

pub legalize_two-two-requires : goal.legalize_two-two-requires
legalize_two-two-requires c =
    face-two c.requires c.adjacent-e0.ensures c.next-e1.ensures c.next-e2.ensures (record { outs = c.insert_into_triangle-after.auto.outs; halves = c.insert_into_triangle-after.auto.halves; faces = c.insert_into_triangle-after.auto.faces; pending = refl }) c.insert_into_triangle-after.ensures

pub legalize_one-requires : goal.legalize_one-requires
legalize_one-requires c =
    face-one c.requires c.adjacent-e0.ensures c.next-e1.ensures c.next-e2.ensures (record { outs = c.insert_into_triangle-after.auto.outs; halves = c.insert_into_triangle-after.auto.halves; faces = c.insert_into_triangle-after.auto.faces; pending = refl }) c.insert_into_triangle-after.ensures _ (record { outs = c.legalize_two-two.auto.outs; halves = c.legalize_two-two.auto.halves; faces = c.legalize_two-two.auto.faces; pending = c.legalize_two-two.auto.pending }) c.legalize_two-two.ensures

pub shape_of-outs : goal.shape_of-outs
shape_of-outs c = c.legalize_one.auto.outs ∙ c.legalize_two-two.auto.outs ∙ c.insert_into_triangle-after.auto.outs

pub shape_of-halves : goal.shape_of-halves
shape_of-halves c = c.legalize_one.auto.halves ∙ c.legalize_two-two.auto.halves ∙ c.insert_into_triangle-after.auto.halves

pub shape_of-faces : goal.shape_of-faces
shape_of-faces c = c.legalize_one.auto.faces ∙ c.legalize_two-two.auto.faces ∙ c.insert_into_triangle-after.auto.faces

pub returns : goal.returns
returns c =
    face-row c.requires c.adjacent-e0.ensures c.next-e1.ensures c.next-e2.ensures (record { outs = c.insert_into_triangle-after.auto.outs; halves = c.insert_into_triangle-after.auto.halves; faces = c.insert_into_triangle-after.auto.faces; pending = refl }) c.insert_into_triangle-after.ensures _ {row₂ = c.legalize_two-two.new.pending} (record { outs = c.legalize_two-two.auto.outs; halves = c.legalize_two-two.auto.halves; faces = c.legalize_two-two.auto.faces; pending = c.legalize_two-two.auto.pending }) c.legalize_two-two.ensures _ _ _ _ c.legalize_one.ensures
