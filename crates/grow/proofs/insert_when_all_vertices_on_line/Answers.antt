-- `grow::insert_when_all_vertices_on_line` meets its contract. Assumes nothing.
use Rattle.grow.specs.LinePoints.{line-ready, place-ready, line-grown}
use borrow.Author.Rules.{rules}
use Rattle.grow.proofs.insert_when_all_vertices_on_line.Goals as goal

pub locate_when_all_vertices_on_line-place-requires : goal.locate_when_all_vertices_on_line-place-requires
locate_when_all_vertices_on_line-place-requires c = line-ready c.requires

pub insert_at_line_place-requires : goal.insert_at_line_place-requires
insert_at_line_place-requires c =
    place-ready c.requires c.locate_when_all_vertices_on_line-place.ensures

pub returns : goal.returns
returns c =
    let R = c.requires in
    line-grown R c.locate_when_all_vertices_on_line-place.ensures _ _ _ _ _ c.insert_at_line_place.ensures
