-- `listing_run::list_accepted` meets its contract. Assumes nothing.
use borrow.Author.Rules.{sfits_of}
use Rattle.listing_run.specs.ListingRun.{point_lines}
use Rattle.listing_run.proofs.Lengths.{totals-next-short}
use Rattle.listing_run.proofs.Rows.{totals-next}
use Rattle.listing_run.proofs.list_accepted.Goals as goal

pub returns : goal.returns
returns c = record { is = λ o. totals-next _ _ c.put_points-place.ensures.is (sfits_of c.doubled_area-area.type_inv) (c.doubled_area-area.ensures o) c.totals_line-line.ensures.is c.put_totals.ensures; short = λ o. totals-next-short (point_lines c.args.answers.now c.args.count) _ _ c.args.count (sfits_of c.doubled_area-area.type_inv) (c.doubled_area-area.ensures o) c.totals_line-line.ensures.is c.put_points-place.ensures.short c.totals_line-line.ensures.short }
