-- `Stages` has the two meshes that the Rust is compared by.
pub mod Stages
