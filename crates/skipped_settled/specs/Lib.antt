-- A point that goes into a settled mesh leaves it settled but for the edges at its vertex. `SettledBut` has the definitions,
-- the others the laws: `TurnLaws` of one turn of legalizing, `LegalizeLaws` of `legalize_vertex`, `InsertSettled` of a point.
pub mod SettledBut
pub mod TurnLaws
