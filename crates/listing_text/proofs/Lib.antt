pub mod Pieces
pub mod Numbers
pub mod Fields
pub mod Lines
pub mod Digits
pub mod Signs
