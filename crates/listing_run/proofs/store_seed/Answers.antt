-- `listing_run::store_seed` meets its contract. Assumes nothing.
use Rattle.std.specs.Prelude.{take}
use Rattle.std.proofs.Common.{arith, length-take-le}
use Rattle.listing_text.specs.RowLaws.{put_mid-sets}
use Rattle.sweep.specs.SeedTriangle.{seed_outs_of, seed_halves_of, seed_faces_of}
use Rattle.listing_run.proofs.store_seed.Goals as goal

pub returns : goal.returns
unfolding seed_outs_of seed_halves_of seed_faces_of
returns c =
    let r = c.requires in
    let n = length-take-le 6 c.args.numbers.now r.0 in (
      rw c.copy_from_slice.ensures.after (put_mid-sets 0 6 c.args.positions.now (take 6 c.args.numbers.now) n (omega arith)),
      rw c.copy_from_slice-2.ensures.after (put_mid-sets 0 3 c.args.outs.now seed_outs_of (omega arith) (omega arith)),
      rw c.copy_from_slice-3.ensures.after (put_mid-sets 0 24 c.args.halves.now seed_halves_of (omega arith) (omega arith)),
      rw c.copy_from_slice-4.ensures.after (put_mid-sets 0 2 c.args.faces.now seed_faces_of (omega arith) (omega arith)),
    )
