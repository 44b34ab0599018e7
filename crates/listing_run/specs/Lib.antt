-- `ListingRun` has what is listed for any bytes, `ListingRunRows` what the parts ask of the rows.
pub mod ListingRun
pub mod ListingRunRows
