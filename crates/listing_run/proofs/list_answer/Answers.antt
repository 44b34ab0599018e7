-- `listing_run::list_answer` meets its contract. Assumes nothing.
use native.Mathlib.Omega.{arith}
use Rattle.listing_run.proofs.Lengths.{short-at, refusal-short}
use Rattle.listing_run.proofs.Rows.{appended-as}
use Rattle.listing_run.proofs.Runs.{listing-refused, listing-accepted}
use Rattle.listing_run.proofs.list_answer.Goals as goal

pub list_accepted-requires : goal.list_accepted-requires
list_accepted-requires c = c.requires _ c.in-Ok.is

pub returns-in-Err : goal.returns-in-Err
returns-in-Err c = record { is = λ o g p. appended-as (listing-refused _ _ c.in-Err.is) c.put_refusal.ensures; short = λ o g p. short-at (listing-refused _ _ c.in-Err.is) (refusal-short _ _ (omega arith) (omega arith) (omega arith)) }

pub returns-in-Ok : goal.returns-in-Ok
returns-in-Ok c = record { is = λ o g p. appended-as (listing-accepted _ _ c.in-Ok.is) (c.list_accepted.ensures.is o); short = λ o g p. short-at (listing-accepted _ _ c.in-Ok.is) (c.list_accepted.ensures.short o) }
