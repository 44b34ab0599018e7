-- `listing_run::list` meets its contract. Assumes nothing.
use mathlib.Core.Path.{sym}
use lib.IntN.{pos}
use lib.ListN.{replicate, length-replicate}
use lib.Seq.{length-take-le}
use native.Mathlib.Omega.{arith}
use Rattle.listing_run.proofs.Lengths.{short-at, refusal-short}
use Rattle.listing_run.proofs.Rows.{appended-as}
use Rattle.listing_run.proofs.Texts.{numbered, numbered-sized, listing-malformed}
use Rattle.listing_run.proofs.list.Goals as goal

pub slice_bounds-numbers-end : goal.slice_bounds-numbers-end
slice_bounds-numbers-end c = (numbered _ c.read.ensures.value (replicate 802 (pos 0)) c.read.ensures.numbers_after (length-replicate 802 (pos 0)) c.in-Ok.is).room

pub slice_bounds-list_numbers-end : goal.slice_bounds-list_numbers-end
slice_bounds-list_numbers-end c = sym (length-take-le _ _ (numbered _ c.read.ensures.value (replicate 802 (pos 0)) c.read.ensures.numbers_after (length-replicate 802 (pos 0)) c.in-Ok.is).room)

pub list_numbers-requires : goal.list_numbers-requires
list_numbers-requires c = numbered-sized _ c.read.ensures.value (numbered _ c.read.ensures.value (replicate 802 (pos 0)) c.read.ensures.numbers_after (length-replicate 802 (pos 0)) c.in-Ok.is)

pub returns-in-Err : goal.returns-in-Err
returns-in-Err c = record { is = appended-as (listing-malformed _ c.read.ensures.value c.in-Err.is) (rw c.from.ensures at c.put_refusal.ensures); short = short-at (listing-malformed _ c.read.ensures.value c.in-Err.is) (refusal-short _ _ (omega arith) (omega arith) (omega arith)) }

pub returns-in-Ok : goal.returns-in-Ok
returns-in-Ok c =
    let n = numbered _ c.read.ensures.value (replicate 802 (pos 0)) c.read.ensures.numbers_after (length-replicate 802 (pos 0)) c.in-Ok.is in
    record { is = appended-as n.listed c.list_numbers.ensures.is; short = short-at n.listed c.list_numbers.ensures.short }
