-- A new vertex in an inner face or on an edge: that the mesh rules, left turning and the boundary are kept.
pub mod Below
pub mod InsertIntoTriangle
pub mod OverFaces
pub mod IntoTriangleLaws
pub mod SplitEdge
pub mod EdgeSplitLaws
pub mod SplitHalfEdge
pub mod HalfEdgeSplitLaws
pub mod InTriangle
pub mod OnEdge
pub mod Star
