-- `Seed` has how a seed grows from the front of the list, `BulkLoad` the call.
pub mod Seed
pub mod OneVertex
pub mod BulkLoad
pub mod Accepted
pub mod Rest
pub mod Past
pub mod Demand3
