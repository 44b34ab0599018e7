pub mod Rows
pub mod MeshRows
pub mod Far
pub mod Views
pub mod MeshHeld
pub mod Cleared
