pub mod AskLaws
pub mod AskRowsLaws
