-- `line_search::at_neighbors` meets its contract. Assumes nothing.
use Rattle.line_search.specs.OnLine.{none-before, none-after, both-found, found-out}
use Rattle.line_search.proofs.at_neighbors.Goals as goal

pub unwrap-requires : goal.unwrap-requires
unwrap-requires c = c.requires.found.some c.in_default.is

pub returns-in_default : goal.returns-in_default
returns-in_default c = none-before c.requires c.in_default.is c.unwrap.ensures

pub returns-in_default-after : goal.returns-in_default-after
returns-in_default-after c = none-after c.requires c.in-Some.is c.in_default-after.is

pub edge_from_neighbors-requires : goal.edge_from_neighbors-requires
edge_from_neighbors-requires c = found-out c.requires c.in-Some.is c.in-Some-after.is

pub returns : goal.returns
returns c = both-found c.requires c.in-Some.is c.in-Some-after.is c.edge_from_neighbors.ensures
