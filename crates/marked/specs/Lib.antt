-- `Marked` has the list, `NoPoints` the law that its last one states, `Established` the theorem.
pub mod Marked
pub mod NoPoints
pub mod Established
