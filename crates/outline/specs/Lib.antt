-- The directions of a mesh's boundary, and where it is the hull of its vertices.
pub mod Outline
pub mod HalfPlane
