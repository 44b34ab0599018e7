-- Lemmas for the proofs of this crate's functions.
pub mod Ring
pub mod Call
pub mod LawsFacts
pub mod PlaceLaws
pub mod StartLaws
