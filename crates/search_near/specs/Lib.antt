-- What the walk from near by and the test of the boundary ask and leave, and that they do.
pub mod NearRows
pub mod BoundaryLoop
