-- The loop of `line_fan::fan_walk`.
use Prim.Native.Nat.{◌-◌, ◌*◌}
use Rattle.line_fan.proofs.FanHeld.{sight-ready}
use Rattle.line_fan.proofs.WalkLoop.{WalkingAt, walk-starts, walk_turn, walk-less, walk-on, walk_end}
use Rattle.line_fan.proofs.fan_walk.Given as goal

abbrev pub invariant-loop-side : goal.invariant-loop-side
invariant-loop-side l =
    WalkingAt l.side l.point l.positions l.initial.halves l.initial.faces l.initial.now l.halves l.faces l.now

abbrev pub decreases-loop-side : goal.decreases-loop-side
decreases-loop-side l =
    2 * l.now.added.counts.vertices - l.now.added.counts.edges
