-- `search::first_holding` meets its contract. The invariant: no face before f holds the point. Assumes nothing.
use Rattle.search.specs.Scanning.{holding-start, face-there, face-ready, holding-on, holding-hit, holding-end}
use Rattle.search.proofs.first_holding.Goals as goal

pub loop-f-init : goal.loop-f-init
loop-f-init c = holding-start c.requires

pub adjacent-a-requires : goal.adjacent-a-requires
adjacent-a-requires c =
    face-there c.requires c.loop-f-test.true

pub holds_at-requires : goal.holds_at-requires
holds_at-requires c =
    face-ready c.requires c.loop-f-test.true c.loop-f.invariant.low c.adjacent-a.ensures

pub returns-then-holds_at : goal.returns-then-holds_at
returns-then-holds_at c =
    holding-hit c.requires c.loop-f.invariant c.loop-f-test.true c.adjacent-a.ensures c.holds_at.ensures
    c.if-holds_at.true

pub loop-f-preserved : goal.loop-f-preserved
loop-f-preserved c =
    holding-on c.requires c.loop-f.invariant c.loop-f-test.true c.adjacent-a.ensures c.holds_at.ensures c.if-holds_at.false

pub returns : goal.returns
returns c =
    holding-end c.requires c.loop-f.invariant c.loop-f-test.false
