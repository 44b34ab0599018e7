pub mod Checked
pub mod Check
pub mod Readable
pub mod CheckLaws
pub mod Accepted
