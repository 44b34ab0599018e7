-- `Ask` has the call, `AskRows` what its parts ask of rows, the others the laws.
pub mod Asked
pub mod Ask
pub mod AskRows
