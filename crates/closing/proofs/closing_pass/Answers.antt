-- `closing::closing_pass` meets its contract. The loop's invariant: to go on from here is to go on from the start. The measure is the height sum, and one for the
-- turn that flips nothing. Assumes nothing.
use Rattle.closing.proofs.Loops.{pass-starts, pass_on, pass-less, pass-ends}
use Rattle.closing.proofs.closing_pass.Goals as goal

pub loop-flips-init : goal.loop-flips-init
loop-flips-init c = pass-starts c.requires.0 c.requires.1

pub close_turn-flips-requires : goal.close_turn-flips-requires
close_turn-flips-requires c = c.loop-flips.invariant.ready

pub returns-then-flips-before : goal.returns-then-flips-before
returns-then-flips-before c =
    pass-ends c.loop-flips.invariant _ _ _ _ c.close_turn-flips.ensures c.if-flips-before.true

pub loop-flips-smaller : goal.loop-flips-smaller
loop-flips-smaller c =
    pass-less c.loop-flips.invariant _ _ _ _ c.close_turn-flips.ensures c.if-flips-before.false

pub loop-flips-preserved : goal.loop-flips-preserved
loop-flips-preserved c =
    pass_on c.loop-flips.invariant _ _ _ _ c.close_turn-flips.ensures c.if-flips-before.false
    (record { outs = c.close_turn-flips.auto.outs; halves = c.close_turn-flips.auto.halves; faces = c.close_turn-flips.auto.faces })
