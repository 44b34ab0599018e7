-- `Corner` has the definitions, `CornerRows` what the contract cites, the others the laws.
pub mod Corner
pub mod CornerLaws
pub mod CornerRows
pub mod RowsLaws
pub mod Untouched
