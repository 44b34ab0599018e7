-- `ring_insert::release` meets its contract. Assumes nothing.
use Rattle.ring_insert.proofs.Freeing.{begin, node-there, angles, again}
use Rattle.ring_insert.proofs.release.Goals as goal

pub loop-node-init : goal.loop-node-init
loop-node-init c = record { pushing = begin c.requires c.load-right.ensures; node = c.load-node.ensures }

pub equal-requires : goal.equal-requires
equal-requires c = angles c.loop-node.invariant.pushing c.loop-node.invariant.node

pub load-node-requires-in-loop-node : goal.load-node-requires-in-loop-node
load-node-requires-in-loop-node c =
    let K = c.loop-node.invariant in node-there (again K.pushing K.node c.equal.ensures c.loop-node-test.true)

pub loop-node-preserved : goal.loop-node-preserved
loop-node-preserved c =
    let K = c.loop-node.invariant in
    record { pushing = again K.pushing K.node c.equal.ensures c.loop-node-test.true; node = c.load-node-in-loop-node.ensures }
