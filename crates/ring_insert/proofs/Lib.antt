-- What the functions' proofs cite beside the laws of specs/.
pub mod Freeing
pub mod Placing
pub mod Deciding
pub mod Inserting
pub mod Retiring
pub mod PlaceLaws
pub mod RetireLaws
