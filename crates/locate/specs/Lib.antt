-- `Locate` has what the public contracts cite and `Rows` what the others do; `Start`, `Place` and `Call` have the laws by which they are met, `Laws` what an accepted call's edge is.
pub mod Located
pub mod Locate
pub mod Rows
pub mod Start
pub mod Laws
