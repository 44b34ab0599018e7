-- `search::scan` meets its contract. Assumes nothing.
use Rattle.search.specs.Located.{holding-there, holding-ready, scan-inner, left-ready, scan-outer}
use Rattle.search.proofs.scan.Goals as goal

pub first_holding-requires : goal.first_holding-requires
first_holding-requires c = c.requires

pub adjacent-requires : goal.adjacent-requires
adjacent-requires c =
    holding-there c.requires c.first_holding.ensures c.in-Some.is

pub place_at-requires : goal.place_at-requires
place_at-requires c =
    holding-ready c.requires c.first_holding.ensures c.in-Some.is c.adjacent.ensures

pub returns-in-Some : goal.returns-in-Some
returns-in-Some c =
    scan-inner c.requires c.first_holding.ensures c.in-Some.is c.adjacent.ensures c.place_at.ensures

pub first_left-e-requires : goal.first_left-e-requires
first_left-e-requires c =
    left-ready c.requires c.first_holding.ensures c.in-None.is

pub returns-in-None : goal.returns-in-None
returns-in-None c =
    scan-outer c.requires c.first_holding.ensures c.in-None.is c.first_left-e.ensures
