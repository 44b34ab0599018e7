-- `Arc`, `Segment` and `Bucket` have the definitions that the contracts cite, `Laws` what is proved of them, for the
-- proofs of this crate and of those above it.
pub mod Arc
pub mod Segment
pub mod Bucket
