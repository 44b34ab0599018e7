-- `Pending` has the list, `Set` the set of its entries; the others are laws.
pub mod Pending
pub mod Set
