-- `Decide` has the definitions, `SweepRows` and `Located` what the contracts ask and give, the others the laws.
pub mod Decide
pub mod SweepRows
pub mod Located
