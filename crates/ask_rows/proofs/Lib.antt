-- `Look` has what holds on the way round the boundary, `Deciding` what is decided by the edge that is found, `Checking` the checks.
pub mod Look
pub mod Deciding
pub mod Checking
