pub mod AnswerRows
pub mod AnswerLaws
pub mod StoreLaws
