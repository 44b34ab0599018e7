pub mod Sums
pub mod Corners
pub mod Call
pub mod CallLaws
pub mod DigitSumsLaws
pub mod MeasurableLaws
pub mod VolumeLaws
