pub mod GoodRows
pub mod BreaksLaws
