-- `grow::grow_point` meets its contract, by the number of vertices. Assumes nothing.
use Rattle.grow.specs.GrowRowsLaws.{on-line-ready, none-grown, one-grown, more-grown}
use borrow.Author.Rules.{rules}
use Rattle.grow.proofs.grow_point.Goals as goal

pub insert_when_all_vertices_on_line-requires : goal.insert_when_all_vertices_on_line-requires
insert_when_all_vertices_on_line-requires c =
    on-line-ready c.requires c.in_default.in_default-own.rest.0.1 c.in_default.in_default-own.rest.1

pub returns-in-0 : goal.returns-in-0
returns-in-0 c =
    none-grown _ _ _ _ c.in-0.is (c.insert_first_vertex.ensures _)

pub returns-in-1 : goal.returns-in-1
returns-in-1 c =
    one-grown _ _ _ _ c.in-1.is c.insert_second_vertex.ensures

pub returns-in_default : goal.returns-in_default
returns-in_default c =
    let m = c.in_default.in_default-own.rest in
    more-grown _ _ _ _ m.0.1 m.1 c.insert_when_all_vertices_on_line.ensures
