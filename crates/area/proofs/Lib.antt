pub mod Loop
pub mod AreaTotalLaws
pub mod SideQueryLaws
pub mod SummableLaws
