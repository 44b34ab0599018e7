-- `search::locate_point` meets its contract. Assumes nothing.
use Rattle.search.specs.Located.{near-ready, scan-ready, nearest-there, from-ready, located-found, located-scanned}
use Rattle.search.proofs.locate_point.Goals as goal

pub walk_to_nearest_neighbor-v-requires : goal.walk_to_nearest_neighbor-v-requires
walk_to_nearest_neighbor-v-requires c =
    near-ready c.requires

pub out-e-requires : goal.out-e-requires
out-e-requires c =
    nearest-there c.requires c.walk_to_nearest_neighbor-v.ensures

pub search_from-requires : goal.search_from-requires
search_from-requires c =
    from-ready c.requires c.walk_to_nearest_neighbor-v.ensures c.out-e.ensures

pub scan-requires : goal.scan-requires
scan-requires c =
    scan-ready c.requires

pub returns-in-Found : goal.returns-in-Found
returns-in-Found c =
    located-found c.requires c.walk_to_nearest_neighbor-v.ensures c.out-e.ensures c.search_from.ensures
    c.in-Found.is

pub returns-in-Onward : goal.returns-in-Onward
returns-in-Onward c =
    located-scanned c.requires c.walk_to_nearest_neighbor-v.ensures c.out-e.ensures c.search_from.ensures
    c.in-Onward.is c.scan.ensures
