-- `Lent` has what the checks of a bulk load are given, and their parts; `LentLaws` that the parts make up the whole.
pub mod Lent
pub mod LentLaws
