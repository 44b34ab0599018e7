pub mod InsertSettled
pub mod LegalizeLaws
pub mod TurnLawsFacts
