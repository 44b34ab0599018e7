-- `listing_run::answer_line` meets its contract. Assumes nothing.
use Rattle.dcel.specs.Rows.{row_of}
use Prim.Native.Nat.{◌+◌, ◌*◌}
use native.Mathlib.Omega.{arith}
use Rattle.sweep.specs.Run.{answer_words}
use Rattle.listing_text.specs.ListingLaws.{point-length}
use Rattle.listing_run.proofs.Rows.{answer-is}
use Rattle.listing_run.proofs.answer_line.Goals as goal

pub returns : goal.returns
unfolding row_of
returns c =
    let a = answer_words * c.args.i in
    let g = c.type_inv.answers in
    record { is = answer-is _ _; short = point-length _ (omega (arith, c.ranges.i)) (omega (arith, g a)) (omega (arith, g (a + 1))) (omega (arith, g (a + 2))) (omega (arith, g (a + 3))) }
