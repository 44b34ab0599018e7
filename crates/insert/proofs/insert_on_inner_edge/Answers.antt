-- `insert::insert_on_inner_edge` meets its contract. Assumes nothing.
use borrow.Author.Rules.{rules}
use mathlib.Core.Path.{refl, ◌∙◌}
use Rattle.insert.proofs.EdgeRows.{inner-here, inner-across, inner-operation, inner-two, inner-rest, inner-row}
use Rattle.insert.proofs.insert_on_inner_edge.Goals as goal

pub half_edge-left-requires : goal.half_edge-left-requires
half_edge-left-requires c = inner-here c.requires

pub half_edge-right-requires : goal.half_edge-right-requires
half_edge-right-requires c = inner-across c.requires c.rev-t.ensures

pub split_edge-after-requires : goal.split_edge-after-requires
split_edge-after-requires c = inner-operation c.requires

pub legalize_two-two-requires : goal.legalize_two-two-requires
legalize_two-two-requires c =
    inner-two c.requires c.rev-t.ensures c.half_edge-left.ensures c.half_edge-right.ensures (record { outs = c.split_edge-after.auto.outs; halves = c.split_edge-after.auto.halves; faces = c.split_edge-after.auto.faces; pending = refl }) c.split_edge-after.ensures

pub legalize_two-requires : goal.legalize_two-requires
legalize_two-requires c =
    inner-rest c.requires c.rev-t.ensures c.half_edge-left.ensures c.half_edge-right.ensures (record { outs = c.split_edge-after.auto.outs; halves = c.split_edge-after.auto.halves; faces = c.split_edge-after.auto.faces; pending = refl }) c.split_edge-after.ensures _ (record { outs = c.legalize_two-two.auto.outs; halves = c.legalize_two-two.auto.halves; faces = c.legalize_two-two.auto.faces; pending = c.legalize_two-two.auto.pending }) c.legalize_two-two.ensures

pub shape_of-outs : goal.shape_of-outs
shape_of-outs c = c.legalize_two.auto.outs ∙ c.legalize_two-two.auto.outs ∙ c.split_edge-after.auto.outs

pub shape_of-halves : goal.shape_of-halves
shape_of-halves c = c.legalize_two.auto.halves ∙ c.legalize_two-two.auto.halves ∙ c.split_edge-after.auto.halves

pub shape_of-faces : goal.shape_of-faces
shape_of-faces c = c.legalize_two.auto.faces ∙ c.legalize_two-two.auto.faces ∙ c.split_edge-after.auto.faces

pub returns : goal.returns
returns c =
    inner-row c.requires c.rev-t.ensures c.half_edge-left.ensures c.half_edge-right.ensures (record { outs = c.split_edge-after.auto.outs; halves = c.split_edge-after.auto.halves; faces = c.split_edge-after.auto.faces; pending = refl }) c.split_edge-after.ensures _ {row₂ = c.legalize_two-two.new.pending} (record { outs = c.legalize_two-two.auto.outs; halves = c.legalize_two-two.auto.halves; faces = c.legalize_two-two.auto.faces; pending = c.legalize_two-two.auto.pending }) c.legalize_two-two.ensures _ _ _ _ c.legalize_two.ensures
