pub mod ApplyLaws
pub mod FirstFace
pub mod OriginsLaws
pub mod TurnsLaws
