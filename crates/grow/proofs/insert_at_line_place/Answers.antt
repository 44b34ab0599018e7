-- `grow::insert_at_line_place` meets its contract, at each kind of place. Assumes nothing.
use Rattle.grow.specs.LinePoints.{vertex-grown, at_edge, edge-grown, at-end, end-grown, at_off, off-grown}
use borrow.Author.Rules.{rules}
use Rattle.grow.proofs.insert_at_line_place.Goals as goal

pub split_edge_when_all_vertices_on_line-after-requires : goal.split_edge_when_all_vertices_on_line-after-requires
split_edge_when_all_vertices_on_line-after-requires c =
    at_edge c.requires c.in-OnEdge.is

pub extend_line-after-requires : goal.extend_line-after-requires
extend_line-after-requires c =
    at-end c.requires c.in-ExtendingLine.is

pub insert_off_line-added-requires : goal.insert_off_line-added-requires
insert_off_line-added-requires c =
    at_off c.requires c.in-NotOnLine.is _ c.set_position-in-NotOnLine.ensures c.set_position-in-NotOnLine.auto.positions

pub returns-in-OnVertex : goal.returns-in-OnVertex
returns-in-OnVertex c =
    vertex-grown c.requires c.in-OnVertex.is c.unflipped_by.ensures

pub returns-in-OnEdge : goal.returns-in-OnEdge
returns-in-OnEdge c =
    let R = c.requires in
    let y = c.split_edge_when_all_vertices_on_line-after.ensures in
    edge-grown R c.in-OnEdge.is _ c.set_position.ensures y c.unflipped_by-in-OnEdge.ensures

pub returns-in-ExtendingLine : goal.returns-in-ExtendingLine
returns-in-ExtendingLine c =
    let R = c.requires in
    end-grown R c.in-ExtendingLine.is _ c.set_position-in-ExtendingLine.ensures c.extend_line-after.ensures c.unflipped_by-in-ExtendingLine.ensures

pub returns-in-NotOnLine : goal.returns-in-NotOnLine
returns-in-NotOnLine c =
    let R = c.requires in
    off-grown R c.in-NotOnLine.is _ c.set_position-in-NotOnLine.ensures _ _ _ _ c.insert_off_line-added.ensures c.grown_by.ensures
