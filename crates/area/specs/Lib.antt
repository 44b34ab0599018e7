pub mod Sided
pub mod Totalled
pub mod AreaTotal
pub mod SideQuery
pub mod Summable
