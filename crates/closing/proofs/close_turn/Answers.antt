-- `closing::close_turn` meets its contract. The loop's invariant: the edges below u are done. The measure is what is left of the edges. Assumes nothing.
use native.Mathlib.Omega.{arith}
use Rattle.closing.proofs.Loops.{turn-starts, scannable, edge-ready, turn-over, turn_on, turn-ends}
use Rattle.closing.proofs.close_turn.Goals as goal

pub loop-u-init : goal.loop-u-init
loop-u-init c = turn-starts c.requires

pub unbroken-v-requires : goal.unbroken-v-requires
unbroken-v-requires c = scannable c.loop-u.invariant

pub loop-u-smaller-then-v-u : goal.loop-u-smaller-then-v-u
loop-u-smaller-then-v-u c = omega (arith, c.if-v-u.true, c.unbroken-v.ensures.high)

pub loop-u-preserved-then-v-u : goal.loop-u-preserved-then-v-u
loop-u-preserved-then-v-u c = turn-over c.loop-u.invariant _ c.unbroken-v.ensures

pub close_edge-made-requires : goal.close_edge-made-requires
close_edge-made-requires c = edge-ready c.loop-u.invariant c.loop-u-test.true

pub overflow_add-u : goal.overflow_add-u
overflow_add-u c =
    record { fits = omega (arith, c.loop-u-test.true, c.loop-u.invariant.ready.rows.room.small) }

pub loop-u-smaller : goal.loop-u-smaller
loop-u-smaller c =
    omega (arith, c.loop-u-test.true)

pub loop-u-preserved : goal.loop-u-preserved
loop-u-preserved c =
    turn_on c.loop-u.invariant c.loop-u-test.true c.close_edge-made.ensures (record { outs = c.close_edge-made.auto.outs; halves = c.close_edge-made.auto.halves; faces = c.close_edge-made.auto.faces })

pub shape_of-outs : goal.shape_of-outs
shape_of-outs c = c.loop-u.invariant.lengths.outs

pub shape_of-halves : goal.shape_of-halves
shape_of-halves c = c.loop-u.invariant.lengths.halves

pub shape_of-faces : goal.shape_of-faces
shape_of-faces c = c.loop-u.invariant.lengths.faces

pub returns : goal.returns
returns c = turn-ends c.loop-u.invariant c.loop-u-test.false
