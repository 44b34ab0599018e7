-- `Commit` has the call and the change count, `CommitParts` the table and the call by their parts; `QuoteAnswer` says what a quote tells,
-- `CommitLaws` what a commit comes to.
pub mod Commit
pub mod CommitParts
pub mod QuoteAnswer
pub mod CommitLaws
