-- `Walks` has what the contracts ask and give, `WalkLaws` the laws.
pub mod Walks
