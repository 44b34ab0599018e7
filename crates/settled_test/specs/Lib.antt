pub mod Star
pub mod Spoke
pub mod StarLaws
pub mod SpokeLaws
pub mod AllLaws
