-- `hull::meets_center` meets its contract. Assumes nothing.
use mathlib.Core.Path.{◌∙◌}
use borrow.Author.Rules.{rules}
use Rattle.hull.proofs.Around.{met, meeting, unmet, center-at}
use Rattle.hull.proofs.meets_center.Goals as goal

pub returns-then-is_at_center : goal.returns-then-is_at_center
returns-then-is_at_center c =
    met c.loop.invariant (c.is_at_center.ensures ∙ center-at _ _ _ c.origin.ensures c.position-p.ensures (search rules) (search rules) _ _) c.loop-test.true c.if-is_at_center.true

pub loop-preserved : goal.loop-preserved
loop-preserved c =
    meeting c.loop.invariant (c.is_at_center.ensures ∙ center-at _ _ _ c.origin.ensures c.position-p.ensures (search rules) (search rules) _ _) c.loop-test.true c.if-is_at_center.false c.next-e.ensures

pub returns : goal.returns
returns c = unmet c.loop.invariant c.loop-test.false
