-- `circle_scan::read_fars` meets its contract. The loop's invariant: the first k have been read. Assumes nothing.
use Rattle.circle_scan.specs.ScanLaws.{reading-starts, reading-on, reading-ends}
use Rattle.circle_scan.proofs.read_fars.Goals as goal

pub loop-k-init : goal.loop-k-init
loop-k-init c = reading-starts c.requires.1

pub loop-k-preserved : goal.loop-k-preserved
loop-k-preserved c =
    reading-on c.loop-k.invariant c.loop-k-test.true c.prev-p.ensures c.origin.ensures

pub returns : goal.returns
returns c = reading-ends c.loop-k.invariant c.loop-k-test.false
