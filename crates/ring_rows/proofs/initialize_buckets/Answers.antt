-- `ring_rows::initialize_buckets` meets its contract. Assumes nothing.
use Rattle.ring_rows.proofs.Filling.{begin, node-buckets, more, end}
use Rattle.ring_rows.proofs.initialize_buckets.Goals as goal

pub loop-init : goal.loop-init
loop-init c = begin c.requires

pub update_node_buckets-i-requires : goal.update_node_buckets-i-requires
update_node_buckets-i-requires c = node-buckets c.loop.invariant

pub returns : goal.returns
returns c = end c.loop.invariant c.loop-test.false

pub loop-preserved : goal.loop-preserved
loop-preserved c = more c.loop.invariant c.loop-test.true c.update_node_buckets-i.ensures c.update_node_buckets-i.auto.buckets
