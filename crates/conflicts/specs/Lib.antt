-- `Conflicts` has the definitions. The others have the laws: `InsideLaws` that a flip puts no point inside more circles,
-- `ConflictLaws` what a flip and a new face do to the number of vertices inside circles, `FlipsWithin` the bound for a
-- count of flips.
pub mod Conflicts
pub mod InsideLaws
pub mod FlipsWithin
