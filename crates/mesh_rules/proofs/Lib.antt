-- What the sweeps' code shows, from what it has read and tested.
pub mod Passed
pub mod Ranges
pub mod Tests
pub mod Walk
