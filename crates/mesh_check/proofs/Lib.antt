pub mod AcceptedLaws
pub mod CheckLawsFacts
pub mod ReadableLaws
