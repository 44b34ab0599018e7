-- `apply_rows::walk` meets its contract. The loop's invariant: to go on from here is to go on from the start. Assumes nothing.
use Rattle.std.proofs.Common.{◌-◌, arith}
use Rattle.apply_rows.proofs.TurnsLoop.{turning-starts, turning-ready, turning-on, turning-full, turning-end}
use Rattle.apply_rows.proofs.walk.Goals as goal

pub loop-i-init : goal.loop-i-init
loop-i-init c = (c.args.count, omega arith, turning-starts c.requires)

pub returns-then-now : goal.returns-then-now
returns-then-now c = turning-full c.loop-i.invariant.2 c.if-now.true

pub turn-now-requires : goal.turn-now-requires
turn-now-requires c = let k = c.loop-i.invariant.1 in turning-ready c.loop-i.invariant.2 c.if-now.false (omega arith)

pub loop-i-preserved : goal.loop-i-preserved
loop-i-preserved c =
    let k = c.loop-i.invariant.1 in
    let t = c.turn-now.auto in (
      c.loop-i.invariant.0 - 1,
      omega arith,
      turning-on c.loop-i.invariant.2 c.if-now.false (omega arith) c.turn-now.ensures
          (record { outs = t.outs; halves = t.halves; faces = t.faces; pending = t.pending }),
    )

pub returns : goal.returns
returns c = let k = c.loop-i.invariant.1 in turning-end c.loop-i.invariant.2 (omega arith)
