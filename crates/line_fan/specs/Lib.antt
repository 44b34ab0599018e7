-- `FanRows` has what the functions ask, `RowsLaws` what a caller needs of it.
pub mod FanRows
pub mod RowsLaws
