pub mod Crossing
pub mod CrossingLaws
pub mod Holds
pub mod HoldsLaws
