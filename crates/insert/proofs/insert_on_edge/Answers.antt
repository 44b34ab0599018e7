-- `insert::insert_on_edge` meets its contract: one branch for each side that can be outer, and one where none is. Assumes nothing.
use borrow.Author.Rules.{rules}
use Rattle.insert.proofs.OnEdgeRows.{edge_here, edge-across, left-outer, left-row, right-outer, right-row, inner-ready, inner-edge-row}
use Rattle.insert.proofs.insert_on_edge.Goals as goal

pub face-left-requires : goal.face-left-requires
face-left-requires c = edge_here c.requires

pub face-right-requires : goal.face-right-requires
face-right-requires c = edge-across c.requires c.rev-t.ensures

pub insert_on_boundary_edge-requires : goal.insert_on_boundary_edge-requires
insert_on_boundary_edge-requires c = left-outer c.requires c.rev-t.ensures c.face-left.ensures c.if-left-eq0.true

pub returns-then-left-eq0 : goal.returns-then-left-eq0
returns-then-left-eq0 c = left-row c.requires c.rev-t.ensures c.face-left.ensures c.if-left-eq0.true _ c.insert_on_boundary_edge.ensures

pub insert_on_boundary_edge-requires-then-right-eq0 : goal.insert_on_boundary_edge-requires-then-right-eq0
insert_on_boundary_edge-requires-then-right-eq0 c = right-outer c.requires c.rev-t.ensures c.face-left.ensures c.if-left-eq0.false c.face-right.ensures c.if-right-eq0.true

pub returns-then-right-eq0 : goal.returns-then-right-eq0
returns-then-right-eq0 c = right-row c.requires c.rev-t.ensures c.face-left.ensures c.if-left-eq0.false c.face-right.ensures c.if-right-eq0.true _ c.insert_on_boundary_edge-then-right-eq0.ensures

pub insert_on_inner_edge-requires : goal.insert_on_inner_edge-requires
insert_on_inner_edge-requires c = inner-ready c.requires c.rev-t.ensures c.face-left.ensures c.if-left-eq0.false c.face-right.ensures c.if-right-eq0.false

pub returns : goal.returns
returns c = inner-edge-row c.requires c.rev-t.ensures c.face-left.ensures c.if-left-eq0.false c.face-right.ensures c.if-right-eq0.false _ c.insert_on_inner_edge.ensures
