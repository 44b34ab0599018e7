-- `Boundary`, `Held` and `EntersRing` have what the contracts cite, the others the laws.
pub mod Boundary
pub mod Held
pub mod Insert
pub mod EntersRing
