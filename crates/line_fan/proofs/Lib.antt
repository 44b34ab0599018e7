pub mod TurnRows
pub mod Turns
pub mod FanHeld
pub mod WalkLoop
pub mod InsertRows
