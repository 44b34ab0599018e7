-- `steps::sweep` meets its contract. The loop's invariant: after i points the rows hold the definition's sweep of them.
-- Assumes nothing.
use native.Mathlib.Omega.{arith}
use Rattle.steps.proofs.SweepLoop.{sweeping-starts, sweeping-point, sweeping-ready, sweeping-full, sweeping-on, sweeping-end}
use Rattle.steps.proofs.sweep.Goals as goal

pub loop-i-init : goal.loop-i-init
loop-i-init c = sweeping-starts c.requires

pub position-point-requires : goal.position-point-requires
position-point-requires c = sweeping-point c.loop-i.invariant (omega arith)

pub single_bulk_insertion_step-done-requires : goal.single_bulk_insertion_step-done-requires
single_bulk_insertion_step-done-requires c = sweeping-ready c.loop-i.invariant (omega (arith, c.loop-i-test.true)) c.position-point.ensures

pub returns-then-done : goal.returns-then-done
returns-then-done c = sweeping-full c.loop-i.invariant (omega (arith, c.loop-i-test.true)) c.position-point.ensures c.single_bulk_insertion_step-done.ensures c.if-done.true

pub store_answer-requires : goal.store_answer-requires
store_answer-requires c = let i = c.loop-i.invariant in omega (arith, c.loop-i-test.true, i.lengths.answers, i.ready.answers-room)

pub loop-i-preserved : goal.loop-i-preserved
loop-i-preserved c =
    let s = c.single_bulk_insertion_step-done in
    let k = s.auto in
    sweeping-on c.loop-i.invariant (omega (arith, c.loop-i-test.true)) c.position-point.ensures s.ensures c.if-done.false
    k.positions k.outs k.halves k.faces k.pending k.nodes k.freed k.buckets _ c.store_answer.ensures c.store_answer.auto.answers

pub returns : goal.returns
returns c = sweeping-end c.loop-i.invariant (omega (arith, c.loop-i-test.false))
