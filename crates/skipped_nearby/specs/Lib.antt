-- An insertion leaves a mesh to walk on one, wherever the point goes in.
pub mod Away
