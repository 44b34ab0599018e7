-- `line_fan::fan_walk` meets its contract. The loop's invariant: to go on from here is the whole loop. The measure is what
-- the edges lack to twice the vertices. Assumes nothing.
use Prim.Native.Nat.{◌-◌, ◌*◌}
use Rattle.line_fan.proofs.FanHeld.{sight-ready}
use Rattle.line_fan.proofs.WalkLoop.{WalkingAt, walk-starts, walk_turn, walk-less, walk-on, walk_end}
use Rattle.line_fan.proofs.fan_walk.Goals as goal

pub loop-side-init : goal.loop-side-init
loop-side-init c = walk-starts c.requires

pub sees_beside-requires : goal.sees_beside-requires
sees_beside-requires c = sight-ready c.loop-side.invariant.ready

pub fan_turn-now-requires : goal.fan_turn-now-requires
fan_turn-now-requires c =
    walk_turn c.loop-side.invariant c.sees_beside.ensures c.loop-side-test.true

pub loop-side-smaller : goal.loop-side-smaller
loop-side-smaller c =
    walk-less c.loop-side.invariant c.sees_beside.ensures c.loop-side-test.true _ _ _ c.fan_turn-now.ensures

pub loop-side-preserved : goal.loop-side-preserved
loop-side-preserved c =
    walk-on c.loop-side.invariant c.sees_beside.ensures c.loop-side-test.true _ _ _ c.fan_turn-now.ensures
    c.fan_turn-now.auto.halves c.fan_turn-now.auto.faces

pub shape_of-halves : goal.shape_of-halves
shape_of-halves c = c.loop-side.invariant.halves

pub shape_of-faces : goal.shape_of-faces
shape_of-faces c = c.loop-side.invariant.faces

pub returns : goal.returns
returns c = walk_end c.loop-side.invariant c.sees_beside.ensures c.loop-side-test.false
