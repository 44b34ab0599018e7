-- `Angle` and `Answer` have the definitions that the contracts cite. The others have what is proved of them, for the
-- proofs of this crate and of those above it.
pub mod Angle
pub mod Answer
