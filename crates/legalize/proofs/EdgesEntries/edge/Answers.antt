-- An edge is its own. Assumes nothing.
use Rattle.legalize.proofs.Popping.{edge-is}
use Rattle.legalize.proofs.EdgesEntries.edge.Goals as goal

pub returns : goal.returns
returns c = edge-is _
