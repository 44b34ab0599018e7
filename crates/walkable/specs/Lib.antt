-- A mesh to walk on: its boundary is the hull of its vertices, and a point strictly inside a triangle lies in no other.
pub mod Covering
pub mod Fan
pub mod Hull
pub mod Scaled
pub mod Winding
pub mod Walkable
