-- `SeedLeaves` has what the functions ask of rows and leave, `PointLaws` and `SeedLoop` what they come to.
pub mod SeedLeaves
pub mod PointLaws
pub mod SeedLoop
