pub mod Deciding
pub mod Answers
pub mod SweepRowsLaws
pub mod VertexAngles
