pub mod Flip
pub mod Face
pub mod Ready
