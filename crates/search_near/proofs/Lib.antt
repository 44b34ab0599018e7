pub mod BoundaryLoopLaws
pub mod NearLaws
