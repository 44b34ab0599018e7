-- A new vertex in an inner face or on an edge: the operations, what each of them stores, and where in the plane the vertex is.
pub mod Operations
pub mod IntoTriangle
pub mod Plane
pub mod EdgeSplit
pub mod HalfEdgeSplit
