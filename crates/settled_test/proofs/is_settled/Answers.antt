-- `settled_test::is_settled` meets its contract. The loop's invariant: no edge below u breaks the rule. The measure is what is left of the
-- edges. Assumes nothing.
use native.Mathlib.Omega.{arith}
use Rattle.circle_scan.specs.ScanLaws.{scan-ready}
use Rattle.settled_test.specs.AllLaws.{unbroken-none, unbroken-join, unbroken-settled}
use Rattle.settled_test.proofs.is_settled.Goals as goal

pub loop-u-init : goal.loop-u-init
loop-u-init c = unbroken-none

pub unbroken-v-requires : goal.unbroken-v-requires
unbroken-v-requires c = (scan-ready c.requires, c.loop-u.invariant.high)

pub returns-then-v-u : goal.returns-then-v-u
returns-then-v-u c = λ t. absurd t

pub loop-u-smaller : goal.loop-u-smaller
loop-u-smaller c = omega (arith, c.if-v-u.false, c.unbroken-v.ensures.high)

pub loop-u-preserved : goal.loop-u-preserved
loop-u-preserved c = unbroken-join c.loop-u.invariant c.unbroken-v.ensures

pub returns : goal.returns
returns c = λ t. unbroken-settled _ _ c.loop-u.invariant c.loop-u-test.false
