pub mod Legalize
pub mod Turns
pub mod LegalizeLaws
pub mod HullCase
pub mod LegalizeRows
pub mod ReadyAgain
