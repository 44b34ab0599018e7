-- `listing_run::list_numbers` meets its contract. Assumes nothing.
use Rattle.listing_run.specs.ListingRun.{lent_of}
use Rattle.listing_run.proofs.list_numbers.Goals as goal

pub returns : goal.returns
unfolding lent_of
returns c = record { is = c.list_seed.ensures.is; short = c.list_seed.ensures.short }
