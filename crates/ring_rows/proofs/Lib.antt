-- What the functions' proofs cite beside the laws of specs/.
pub mod Row
pub mod Test
pub mod Walk
pub mod WalkBoth
pub mod Finding
pub mod WalkLeft
pub mod Range
pub mod Filling
pub mod Laws
pub mod RowsLaws
