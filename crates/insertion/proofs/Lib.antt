pub mod EdgeSplitLaws
pub mod HalfEdgeSplitLaws
pub mod IntoTriangleLaws
pub mod PlaneLaws
