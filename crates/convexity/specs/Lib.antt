pub mod Convexity
pub mod Walk
pub mod ConvexityRows
pub mod BehindLaws
pub mod WalkLaws
pub mod StackLaws
pub mod ConvexityLaws
