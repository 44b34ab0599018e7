pub mod BitLaws
pub mod ContainsLaws
pub mod MarkLaws
pub mod PendingLaws
pub mod SetLaws
