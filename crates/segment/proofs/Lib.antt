-- What the functions' proofs cite beside the laws of specs/.
pub mod Shift
pub mod Laws
