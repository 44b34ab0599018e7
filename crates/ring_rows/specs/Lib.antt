-- `Rows`, `RingRows` and `Find` have what the contracts cite, `Laws` what is proved of it, for the proofs of this crate and of those
-- above it.
pub mod Rows
pub mod RingRows
pub mod Find
