-- What stores to the rows do to the functions that the rows are seen as.
pub mod Rows
