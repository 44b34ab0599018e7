pub mod CoverRows
pub mod Sight
pub mod TurnRows
pub mod WalkLoop
pub mod InsertRows
