-- What the functions' proofs cite beside the laws of specs/.
pub mod Bits
pub mod Center
pub mod Grid
pub mod Laws
pub mod Powers
pub mod Product
pub mod PseudoAngle
pub mod Valid
pub mod Values
