-- A listing for which the row has room is written whole. Assumes nothing.
use Rattle.std.proofs.Common.{◌≡◌, ℕ, List, take, length, ◌≤◌, arith}
use Rattle.std.proofs.Math.Seq.{take-append_seam}
use Rattle.listing_text.specs.Decimal.{Appended}
use Rattle.listing_text.specs.RowLaws.{appended-fits}

pub written : {row listing row' : List ℕ} {end : ℕ} → Appended row 0 listing row' end → length listing ≤ length row → take end row' ≡ listing
written {row} {listing} {row'} {end} a l =
    let fits = appended-fits a (omega arith) in
    let is : end ≡ length listing = let e = fits.0 in omega arith in
    rw (is, fits.1) (take-append_seam listing _)
