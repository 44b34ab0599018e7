pub mod CompleteRows
pub mod FillLoop
