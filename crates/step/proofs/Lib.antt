pub mod PointRows
pub mod StepDone
pub mod CallRows
