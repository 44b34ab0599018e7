-- `OutsideRows` has what the functions ask, `RowsLaws` and `TurnLaws` what a caller needs of it.
pub mod OutsideRows
pub mod RowsLaws
pub mod TurnLaws
