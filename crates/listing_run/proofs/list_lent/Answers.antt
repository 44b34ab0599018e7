-- `listing_run::list_lent` meets its contract. Assumes nothing.
use Rattle.listing_run.proofs.Lengths.{short-as, few-lines}
use Rattle.listing_run.proofs.Rows.{appended-as}
use Rattle.listing_run.proofs.Runs.{outcome-listable, listing-run}
use Rattle.listing_run.proofs.list_lent.Goals as goal

pub list_answer-requires : goal.list_answer-requires
list_answer-requires c = outcome-listable _ c.requires c.run_lent-answer.ensures.is c.point_count-count.ensures

pub returns : goal.returns
returns c = record { is = appended-as (listing-run _ c.run_lent-answer.ensures.is c.point_count-count.ensures) (c.list_answer.ensures.is _ _ _); short = short-as (listing-run _ c.run_lent-answer.ensures.is c.point_count-count.ensures) (c.list_answer.ensures.short _ _ _) (few-lines c.args.counts.vertices c.point_count-count.ensures c.requires) }
