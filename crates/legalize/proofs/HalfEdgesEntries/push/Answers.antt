-- What the flip of a half-edge pushes. Assumes nothing.
use Rattle.legalize.proofs.Pushing.{half-edges-ready, half-edges-pushed}
use Rattle.legalize.proofs.HalfEdgesEntries.push.Goals as goal

pub half_edge-rev-requires : goal.half_edge-rev-requires
half_edge-rev-requires c = rw c.rev.ensures (half-edges-ready c.requires.0)

pub returns : goal.returns
returns c = half-edges-pushed _ _ _ _ c.rev.ensures c.half_edge-rev.ensures c.push-n.ensures c.push.ensures c.args._edges
