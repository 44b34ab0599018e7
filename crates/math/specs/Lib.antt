pub mod Determinant
pub mod Vector
pub mod Wide
pub mod Circle
pub mod Whole
pub mod Projection
