pub mod Holds
pub mod HoldsRules
