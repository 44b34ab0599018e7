-- `hull::build_nodes` meets its contract. Assumes nothing.
use Rattle.hull.proofs.Numbered.{built-more}
use Rattle.hull.proofs.build_nodes.Goals as goal

pub loop-k-preserved : goal.loop-k-preserved
loop-k-preserved c =
    built-more c.loop-k.invariant c.loop-k-test.true c.angle_at.ensures c.store.ensures c.store.auto.nodes c.next-e.ensures
