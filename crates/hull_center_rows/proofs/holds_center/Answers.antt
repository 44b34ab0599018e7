-- `hull_center_rows::holds_center` meets its contract. The invariant: no face before f holds the centre. Assumes nothing.
use Rattle.hull_center_rows.specs.Holding.{passed_start, face-there, face-ready, passed_on, passed-hit, passed-end}
use Rattle.hull_center_rows.proofs.holds_center.Goals as goal

pub loop-f-init : goal.loop-f-init
loop-f-init c = passed_start c.requires

pub adjacent-a-requires : goal.adjacent-a-requires
adjacent-a-requires c =
    face-there c.requires c.loop-f-test.true

pub holds_center_at-requires : goal.holds_center_at-requires
holds_center_at-requires c =
    face-ready c.requires c.loop-f-test.true c.loop-f.invariant.low c.adjacent-a.ensures

pub returns-then-holds_center_at : goal.returns-then-holds_center_at
returns-then-holds_center_at c =
    passed-hit c.requires c.loop-f.invariant c.loop-f-test.true c.adjacent-a.ensures
    c.holds_center_at.ensures c.if-holds_center_at.true

pub loop-f-preserved : goal.loop-f-preserved
loop-f-preserved c =
    passed_on c.requires c.loop-f.invariant c.loop-f-test.true c.adjacent-a.ensures
    c.holds_center_at.ensures c.if-holds_center_at.false

pub returns : goal.returns
returns c =
    passed-end c.requires c.loop-f.invariant c.loop-f-test.false
