-- `ring_rows::walk_both` meets its contract. Assumes nothing.
use Rattle.ring_rows.proofs.WalkBoth.{begin, right-test, left-test, right_there, left_there, again}
use Rattle.ring_rows.proofs.walk_both.Goals as goal

pub loop-init : goal.loop-init
loop-init c = begin c.requires

pub contains_angle-requires : goal.contains_angle-requires
contains_angle-requires c = right-test c.loop.invariant

pub contains_angle-requires-in-loop : goal.contains_angle-requires-in-loop
contains_angle-requires-in-loop c = left-test c.loop.invariant

pub load-right-requires : goal.load-right-requires
load-right-requires c = right_there c.loop.invariant

pub load-left-requires : goal.load-left-requires
load-left-requires c = left_there c.loop.invariant

pub loop-preserved : goal.loop-preserved
loop-preserved c =
    again c.loop.invariant c.contains_angle.ensures c.if-contains_angle.false c.load-right.ensures c.load-left.ensures
