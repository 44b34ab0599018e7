-- What the functions' proofs cite beside the laws of specs/.
pub mod Around
pub mod Numbered
pub mod Entering
pub mod Along
pub mod Build
pub mod Find
pub mod InsertLaws
pub mod Ready
pub mod Strict
