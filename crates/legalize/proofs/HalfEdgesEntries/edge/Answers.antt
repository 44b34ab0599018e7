-- The edge of a half-edge. Assumes nothing.
use Rattle.legalize.proofs.Popping.{half-edge-is}
use Rattle.legalize.proofs.HalfEdgesEntries.edge.Goals as goal

pub returns : goal.returns
returns c = half-edge-is _
