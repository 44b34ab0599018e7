-- `LoadRows` has what the functions ask of rows and leave, the others what they come to.
pub mod LoadRows
pub mod EndLaws
pub mod RestRows
pub mod LoadSeeded
pub mod LoadSwept
pub mod LoadEnded
