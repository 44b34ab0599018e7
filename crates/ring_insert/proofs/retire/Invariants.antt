-- The loop of `ring_insert::retire`.
use Prim.Native.Nat.{◌+◌}
use Rattle.ring_insert.proofs.Retiring.{Retiring}
use Rattle.ring_insert.proofs.retire.Given as goal

abbrev pub invariant-loop-node : goal.invariant-loop-node
invariant-loop-node l = Retiring l.initial.nodes l.nodes l.freed l.from l.to (l.from + l.node-index)
