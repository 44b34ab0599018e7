-- What the flip of an edge pushes. Assumes nothing.
use Rattle.std.proofs.Common.{arith}
use Rattle.legalize.proofs.Pushing.{edges-ready, edges-pushed}
use Rattle.legalize.proofs.EdgesEntries.push.Goals as goal

pub overflow_mul-entry : goal.overflow_mul-entry
overflow_mul-entry c = let r = (edges-ready c.requires.0).0 in record { fits = omega arith }

pub half_edge-edge-requires : goal.half_edge-edge-requires
half_edge-edge-requires c = let r = (edges-ready c.requires.0).1 in omega arith

pub overflow_mul-entry-2 : goal.overflow_mul-entry-2
overflow_mul-entry-2 c = let r = (edges-ready c.requires.0).0 in record { fits = omega arith }

pub overflow_add-entry : goal.overflow_add-entry
overflow_add-entry c = let r = (edges-ready c.requires.0).0 in record { fits = omega arith }

pub half_edge-rev-requires : goal.half_edge-rev-requires
half_edge-rev-requires c = (edges-ready c.requires.0).1

pub returns : goal.returns
returns c = edges-pushed _ _ _ _ c.half_edge-edge.ensures c.half_edge-rev.ensures c.push_two-two.ensures c.push_two.ensures
