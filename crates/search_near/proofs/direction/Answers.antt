-- `search_near::direction` meets its contract. Assumes nothing.
use Rattle.search_near.proofs.BoundaryLoopLaws.{direction-range, direction-is}
use Rattle.search_near.proofs.direction.Goals as goal

pub sub-requires : goal.sub-requires
sub-requires c = direction-range c.requires c.origin-u.ensures c.to-w.ensures c.position-from.ensures c.position-to.ensures

pub returns : goal.returns
returns c = direction-is c.requires c.origin-u.ensures c.to-w.ensures c.position-from.ensures c.position-to.ensures c.sub.ensures
