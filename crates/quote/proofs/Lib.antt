-- `Same` reads the tests of `is_same`.
pub mod Same
