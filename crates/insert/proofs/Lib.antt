pub mod EachRows
pub mod GrowRows
pub mod FaceRows
pub mod EdgeRows
pub mod OnEdgeRows
pub mod PointRows
pub mod AtRows
