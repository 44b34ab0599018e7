-- `circle_scan::unbroken_in_block` meets its contract. The loop's invariant: up to edge v none breaks the rule. Assumes nothing.
use Rattle.circle_scan.specs.ScanLaws.{far-e, far-t, circle-of, unbroken-on, unbroken-all}
use Rattle.circle_scan.proofs.unbroken_in_block.Goals as goal

pub breaks_circle-requires : goal.breaks_circle-requires
breaks_circle-requires c =
    let v = c.loop-v.invariant in
    let p = c.requires in
    (circle-of p.ready c.loop-v-test.true, far-e p v.low c.loop-v-test.true, far-t p v.low c.loop-v-test.true)

pub loop-v-preserved : goal.loop-v-preserved
loop-v-preserved c =
    unbroken-on c.loop-v.invariant c.loop-v-test.true c.breaks_circle.ensures c.if-breaks_circle.false

pub returns : goal.returns
returns c = unbroken-all c.requires.order c.loop-v.invariant c.loop-v-test.false
