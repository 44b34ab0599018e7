-- `listing_run::totals_line` meets its contract. Assumes nothing.
use borrow.Author.Rules.{rules}
use Rattle.listing_run.specs.ListingRun.{totals_of}
use native.Mathlib.Omega.{arith}
use Rattle.listing_run.proofs.Lengths.{totals-short}
use Rattle.listing_run.proofs.totals_line.Goals as goal

pub returns : goal.returns
unfolding totals_of
returns c = record { is = search rules; short = totals-short _ _ _ _ _ _ _ (omega arith) (omega arith) (omega arith) c.ranges.area (omega arith) (omega arith) (omega arith) }
