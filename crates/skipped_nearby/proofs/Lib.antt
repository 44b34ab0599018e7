pub mod AwayLaws
pub mod FacingLaws
pub mod InsertWalkable
pub mod OutsideLaws
