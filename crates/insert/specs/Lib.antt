-- `InsertRows` says what the functions ask of the rows and leave, the others are laws.
pub mod Each
pub mod InsertRows
pub mod InsertRowsLaws
