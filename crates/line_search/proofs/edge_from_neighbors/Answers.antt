-- `line_search::edge_from_neighbors` meets its contract. Assumes nothing.
use Rattle.line_search.specs.OnLine.{out-edge, other_edge, out-back, out-here}
use Rattle.line_search.proofs.edge_from_neighbors.Goals as goal

pub to-requires : goal.to-requires
to-requires c =
    out-back c.requires c.out-e.ensures

pub returns-then-to-u : goal.returns-then-to-u
returns-then-to-u c =
    out-edge _ _ _ _ c.out-e.ensures c.to.ensures c.if-to-u.true

pub prev-requires : goal.prev-requires
prev-requires c =
    out-here c.requires c.out-e.ensures

pub returns : goal.returns
returns c =
    other_edge _ _ _ _ c.out-e.ensures c.to.ensures c.if-to-u.false c.prev.ensures
    c.rev.ensures
