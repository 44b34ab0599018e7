-- What the code of the listing shows, over plain rows and numbers.
pub mod Rows
pub mod Runs
pub mod Seed
pub mod Texts
pub mod Lengths
