pub mod ExamplesLaws
pub mod InsideLaws
pub mod KeptLaws
pub mod LeavesLaws
pub mod TestLaws
pub mod WayLaws
