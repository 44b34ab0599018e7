-- `line_search::locate_on_line` meets its contract. Assumes nothing.
use Rattle.line_search.specs.OnLine.{vertices-some, vertices-ready, found-ready, place-vertex, place-between}
use Rattle.line_search.proofs.locate_on_line.Goals as goal

pub neighbors_of-requires : goal.neighbors_of-requires
neighbors_of-requires c = (vertices-some c.requires, vertices-ready c.requires)

pub at_neighbors-requires : goal.at_neighbors-requires
at_neighbors-requires c =
    found-ready c.requires c.neighbors_of.ensures.0 c.in-Between.is c.neighbors_of.ensures.1

pub returns-in-Vertex : goal.returns-in-Vertex
returns-in-Vertex c =
    place-vertex c.requires c.neighbors_of.ensures.0 c.in-Vertex.is

pub returns-in-Between : goal.returns-in-Between
returns-in-Between c =
    place-between c.requires c.neighbors_of.ensures.0 c.in-Between.is
    c.at_neighbors.ensures
