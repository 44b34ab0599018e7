pub mod ExactLaws
pub mod LawsFacts
