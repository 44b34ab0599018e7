-- The loop of `steps::sweep`.
use Rattle.steps.proofs.SweepLoop.{SweepingAt}
use Rattle.steps.proofs.sweep.Given as goal

abbrev pub invariant-loop-i : goal.invariant-loop-i
invariant-loop-i l =
    SweepingAt l.initial.positions l.initial.outs l.initial.halves l.initial.faces l.initial.pending l.initial.nodes l.initial.freed l.initial.buckets l.initial.answers l.center.x l.center.y l.points l.count l.initial.now l.initial.ring
    l.positions l.outs l.halves l.faces l.pending l.nodes l.freed l.buckets l.answers l.now l.ring l.i
