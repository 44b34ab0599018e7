pub mod RunDone
