-- `search_near::locate_near` meets its contract. Assumes nothing.
use Rattle.search_near.proofs.NearLaws.{near-inside}
use Rattle.search_near.proofs.locate_near.Goals as goal

pub first_edge-start-requires : goal.first_edge-start-requires
first_edge-start-requires c = c.requires.start

pub walk-requires : goal.walk-requires
walk-requires c = c.first_edge-start.ensures

pub returns-in-Some : goal.returns-in-Some
returns-in-Some c = near-inside c.requires c.if-known.true c.walk.ensures c.in-Some.is

pub locate_point-requires : goal.locate_point-requires
locate_point-requires c = c.requires.start.ready

pub returns : goal.returns
returns c = c.locate_point.ensures
