-- `ring_insert::retire` meets its contract. Assumes nothing.
use Rattle.ring_insert.proofs.Retiring.{node-there, again}
use Rattle.ring_insert.proofs.retire.Goals as goal

pub set_edge-requires : goal.set_edge-requires
set_edge-requires c = node-there c.loop-node.invariant c.loop-node-test.true

pub loop-node-preserved : goal.loop-node-preserved
loop-node-preserved c =
    again c.loop-node.invariant c.loop-node-test.true c.set_edge.ensures c.set_edge.auto.nodes
