-- The loop of `ring_insert::release`.
use Rattle.std.specs.Prelude.{◌≡◌}
use Prim.Native.Nat.{◌-◌}
use lib.ListN.{length}
use Rattle.ring_rows.specs.Rows.{nodes_of}
use Rattle.ring_insert.proofs.Freeing.{Pushing}
use Rattle.ring_insert.proofs.release.Given as goal

abbrev pub invariant-loop-node : goal.invariant-loop-node
invariant-loop-node l = record {
  pushing : Pushing l.nodes l.initial.freed l.freed l.top l.first l.angle l.right l.n;
  node : l.node ≡ nodes_of l.nodes l.right;
}

abbrev pub decreases-loop-node : goal.decreases-loop-node
decreases-loop-node l = length l.initial.freed - l.n
