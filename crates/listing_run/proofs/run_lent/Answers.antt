-- `listing_run::run_lent` meets its contract. Assumes nothing.
use Rattle.listing_run.proofs.Runs.{ran-with-own}
use Rattle.listing_run.proofs.run_lent.Goals as goal

pub returns : goal.returns
returns c = ran-with-own c.run.ensures.is c.zero_nodes-nodes.ensures
