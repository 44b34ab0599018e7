-- `CenterRows` has what the contracts ask of the rows, `Side` the sums by which a side is decided; the others have what is
-- proved of them.
pub mod CenterRows
pub mod Side
pub mod Holding
pub mod Ready
