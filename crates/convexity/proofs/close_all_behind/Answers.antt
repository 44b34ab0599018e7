-- `convexity::close_all_behind` meets its contract. The loop's invariant: to go on from here is to go on from the start. The measure is the depth. Assumes nothing.
use native.Mathlib.Omega.{arith}
use Rattle.convexity.proofs.InnerLoop.{closing-starts, closing-behind, closing-ready, closing-two, closing-on, closing_end}
use Rattle.convexity.proofs.close_all_behind.Goals as goal

pub loop-outs-init : goal.loop-outs-init
loop-outs-init c = closing-starts c.requires

pub left_behind-requires : goal.left_behind-requires
left_behind-requires c = closing-behind c.loop-outs.invariant

pub close_behind-now-requires : goal.close_behind-now-requires
close_behind-now-requires c =
    closing-ready c.loop-outs.invariant c.left_behind.ensures c.loop-outs-test.true

pub overflow_sub-behind : goal.overflow_sub-behind
overflow_sub-behind c =
    let i = c.loop-outs.invariant in
    omega (arith, closing-two i c.left_behind.ensures c.loop-outs-test.true)

pub loop-outs-smaller : goal.loop-outs-smaller
loop-outs-smaller c =
    let i = c.loop-outs.invariant in
    omega (arith, closing-two i c.left_behind.ensures c.loop-outs-test.true)

pub loop-outs-preserved : goal.loop-outs-preserved
loop-outs-preserved c =
    let i = c.loop-outs.invariant in
    closing-on i c.left_behind.ensures c.loop-outs-test.true c.close_behind-now.ensures
    (record { outs = c.close_behind-now.auto.outs; halves = c.close_behind-now.auto.halves; faces = c.close_behind-now.auto.faces; pending = c.close_behind-now.auto.pending })

pub shape_of-outs : goal.shape_of-outs
shape_of-outs c = c.loop-outs.invariant.lengths.outs

pub shape_of-halves : goal.shape_of-halves
shape_of-halves c = c.loop-outs.invariant.lengths.halves

pub shape_of-faces : goal.shape_of-faces
shape_of-faces c = c.loop-outs.invariant.lengths.faces

pub shape_of-pending : goal.shape_of-pending
shape_of-pending c = c.loop-outs.invariant.lengths.pending

pub returns : goal.returns
returns c = closing_end c.loop-outs.invariant c.left_behind.ensures c.loop-outs-test.false
