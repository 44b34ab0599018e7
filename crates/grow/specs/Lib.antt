-- `GrowRows` says what the functions ask of the rows and leave, the others are laws.
pub mod FirstPoints
pub mod GrowRows
pub mod GrowRowsLaws
pub mod LinePoints
