-- `listing_run::list_seed` meets its contract. Assumes nothing.
use mathlib.Core.Path.{ap}
use Rattle.listing_run.specs.ListingRun.{lent_listing}
use Rattle.listing_run.proofs.Lengths.{short-at}
use Rattle.listing_run.proofs.Rows.{appended-as}
use Rattle.listing_run.proofs.Seed.{points-few, seed-lent}
use Rattle.listing_run.proofs.list_seed.Goals as goal

pub list_lent-requires : goal.list_lent-requires
list_lent-requires c = points-few c.args.numbers.now c.requires.in_bounds.0 c.requires.in_bounds.1

pub returns : goal.returns
returns c =
    let e = ap lent_listing (seed-lent c.args.numbers.now _ _ _ _ _ c.store_seed.ensures.0 c.store_seed.ensures.1 c.store_seed.ensures.2 c.store_seed.ensures.3 (record { sfits = c.to_f64-arg-1.given }) (record { sfits = c.to_f64-arg-2-1.given }) c.to_f64-center.ensures.0 c.to_f64-center.ensures.1) in
    record { is = appended-as e c.list_lent.ensures.is; short = short-at e c.list_lent.ensures.short }
