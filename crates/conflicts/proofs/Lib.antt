pub mod ConflictLaws
pub mod FlipsWithinLaws
pub mod InsideLawsFacts
