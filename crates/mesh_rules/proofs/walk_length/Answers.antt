-- `mesh_rules::walk_length` meets its contract. Assumes nothing.
use Rattle.std.proofs.Common.{arith}
use Rattle.mesh_rules.proofs.Walk.{walk_start, walk-below, walk_end, walk-most, walk-on}
use Rattle.mesh_rules.proofs.walk_length.Goals as goal

pub loop-e-init : goal.loop-e-init
loop-e-init g c = λ f h I K. walk_start I c.requires.starts (omega arith) (K _ _ c.requires.starts c.step-e.ensures)

pub step-e-requires-in-loop-e : goal.step-e-requires-in-loop-e
step-e-requires-in-loop-e g c =
    let p = c.requires.permutes in
    c.requires.callable _ (walk-below p.2 c.requires.starts (omega arith) (c.loop-e.invariant p.0 p.1 p.2 p.3))

pub overflow_add-k : goal.overflow_add-k
overflow_add-k g c =
    let p = c.requires.permutes in
    let l = walk-most p.2 c.requires.starts (omega arith) (c.loop-e.invariant p.0 p.1 p.2 p.3) c.loop-e-test.true in omega (arith, l)

pub loop-e-smaller : goal.loop-e-smaller
loop-e-smaller g c =
    let p = c.requires.permutes in
    let l = walk-most p.2 c.requires.starts (omega arith) (c.loop-e.invariant p.0 p.1 p.2 p.3) c.loop-e-test.true in omega (arith, l)

pub loop-e-preserved : goal.loop-e-preserved
loop-e-preserved g c = λ f h I K.
    let W = c.loop-e.invariant f h I K in
    walk-on I c.requires.starts (omega arith) W c.loop-e-test.true (K _ _ (walk-below I c.requires.starts (omega arith) W) c.step-e-in-loop-e.ensures)

pub returns : goal.returns
returns g c = λ f h I K. walk_end I c.requires.starts (omega arith) (c.loop-e.invariant f h I K) c.loop-e-test.false
