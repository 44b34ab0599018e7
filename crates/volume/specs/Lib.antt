pub mod Measured
pub mod Volume
pub mod DigitSums
pub mod Measurable
