pub mod FirstRows
pub mod TurnRows
pub mod TurnsLoop
pub mod AddRows
