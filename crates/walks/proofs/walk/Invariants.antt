-- The loop of `walks::walk`.
use Prim.Native.Nat.{◌-◌, ◌^◌}
use Rattle.walks.proofs.Walking.{Walking}
use Rattle.walks.proofs.walk.Given as goal

abbrev pub invariant-loop-side : goal.invariant-loop-side
invariant-loop-side l =
    Walking l.side l.positions l.halves l.center.x l.center.y l.point l.angle l.e l.initial.end.vertex l.end l.d l.far

abbrev pub decreases-loop-side : goal.decreases-loop-side
decreases-loop-side l = 2 ^ 32 - l.end.count
