-- `insert::insert_on_boundary_edge` meets its contract. Assumes nothing.
use borrow.Author.Rules.{rules}
use mathlib.Core.Path.{refl}
use Rattle.insert.proofs.EdgeRows.{boundary-here, boundary-operation, boundary-two, boundary-row}
use Rattle.insert.proofs.insert_on_boundary_edge.Goals as goal

pub half_edge-left-requires : goal.half_edge-left-requires
half_edge-left-requires c = boundary-here c.requires

pub split_half_edge-after-requires : goal.split_half_edge-after-requires
split_half_edge-after-requires c = boundary-operation c.requires

pub legalize_two-requires : goal.legalize_two-requires
legalize_two-requires c =
    boundary-two c.requires c.half_edge-left.ensures (record { outs = c.split_half_edge-after.auto.outs; halves = c.split_half_edge-after.auto.halves; faces = c.split_half_edge-after.auto.faces; pending = refl }) c.split_half_edge-after.ensures

pub returns : goal.returns
returns c =
    boundary-row c.requires c.half_edge-left.ensures (record { outs = c.split_half_edge-after.auto.outs; halves = c.split_half_edge-after.auto.halves; faces = c.split_half_edge-after.auto.faces; pending = refl }) c.split_half_edge-after.ensures _ {row₂ = c.legalize_two.new.pending} (record { outs = c.legalize_two.auto.outs; halves = c.legalize_two.auto.halves; faces = c.legalize_two.auto.faces; pending = c.legalize_two.auto.pending }) c.legalize_two.ensures
