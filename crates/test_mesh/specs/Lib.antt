-- `Lent` says that no more of a row is lent than it has.
pub mod Lent
