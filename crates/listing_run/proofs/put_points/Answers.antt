-- `listing_run::put_points` meets its contract. Assumes nothing.
use Rattle.listing_run.proofs.Rows.{points_none, points-next, points-all}
use Rattle.listing_run.proofs.Lengths.{points-none-short, points-short, points-all-short}
use Rattle.listing_run.proofs.put_points.Goals as goal

pub loop-i-init : goal.loop-i-init
loop-i-init c = (points_none _ _, points-none-short _)

pub loop-i-preserved : goal.loop-i-preserved
loop-i-preserved c = (
  points-next _ _ c.loop-i.invariant.0 c.answer_line.ensures.is c.put_point-place.ensures,
  points-short _ _ c.loop-i.invariant.1 c.answer_line.ensures.is c.answer_line.ensures.short,
)

pub returns : goal.returns
returns c =
    record {
      is = points-all _ c.loop-i.auto.i-end c.loop-i-test.false c.loop-i.invariant.0;
      short = points-all-short _ c.loop-i.auto.i-end c.loop-i-test.false c.loop-i.invariant.1;
    }
