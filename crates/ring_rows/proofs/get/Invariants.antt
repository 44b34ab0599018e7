-- The loop of `ring_rows::get`.
use Prim.Native.Nat.{ℕ, ◌-◌}
use lib.ListN.{length}
use Rattle.angle.specs.Angle.{turns}
use Rattle.ring_rows.specs.Rows.{NodeRing, nodes_of}
use Rattle.ring_rows.proofs.Walk.{Walking}
use Rattle.ring_rows.proofs.get.Given as goal

abbrev pub invariant-loop-handle : goal.invariant-loop-handle
invariant-loop-handle l = (len size : ℕ) → NodeRing (nodes_of l.nodes) len size l.initial.handle → Walking (nodes_of l.nodes) len size l.initial.handle (turns l.angle) l.handle l.passed

abbrev pub decreases-loop-handle : goal.decreases-loop-handle
decreases-loop-handle l = length l.nodes - l.passed
