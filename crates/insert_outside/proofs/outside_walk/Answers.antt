-- `insert_outside::outside_walk` meets its contract. The loop's invariant: to go on from here is to go on from the start. The measure
-- is the boundary's length. Assumes nothing.
use Rattle.dcel.specs.Rows.{links_of}
use Rattle.mesh.specs.Area.{boundary_length}
use Rattle.insert_outside.proofs.WalkLoop.{WalkingAt, walk-starts, walk-sight, walk_turn, walk-less, walk-on, walk_end}
use Rattle.insert_outside.proofs.outside_walk.Goals as goal

pub loop-side-init : goal.loop-side-init
loop-side-init c = walk-starts c.requires

pub sees_beside-requires : goal.sees_beside-requires
sees_beside-requires c = walk-sight c.loop-side.invariant

pub outside_turn-now-requires : goal.outside_turn-now-requires
outside_turn-now-requires c =
    walk_turn c.loop-side.invariant c.sees_beside.ensures c.loop-side-test.true

pub loop-side-smaller : goal.loop-side-smaller
loop-side-smaller c =
    walk-less c.loop-side.invariant c.sees_beside.ensures c.loop-side-test.true _ _ _ _ c.outside_turn-now.ensures

pub loop-side-preserved : goal.loop-side-preserved
loop-side-preserved c =
    let k = c.outside_turn-now.auto in
    walk-on c.loop-side.invariant c.sees_beside.ensures c.loop-side-test.true _ _ _ _ c.outside_turn-now.ensures
    (record { outs = k.outs; halves = k.halves; faces = k.faces; pending = k.pending })

pub shape_of-outs : goal.shape_of-outs
shape_of-outs c = c.loop-side.invariant.lengths.outs

pub shape_of-halves : goal.shape_of-halves
shape_of-halves c = c.loop-side.invariant.lengths.halves

pub shape_of-faces : goal.shape_of-faces
shape_of-faces c = c.loop-side.invariant.lengths.faces

pub shape_of-pending : goal.shape_of-pending
shape_of-pending c = c.loop-side.invariant.lengths.pending

pub returns : goal.returns
returns c = walk_end c.loop-side.invariant c.sees_beside.ensures c.loop-side-test.false
