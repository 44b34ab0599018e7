-- `RunWords` has what the finish makes of the answers row.
pub mod RunWords
