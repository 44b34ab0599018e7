-- `Finish` and `FinishRows` have what the contracts cite, `CallLeaves` what a call leaves; the others have what is proved of them.
pub mod Finished
pub mod Finish
pub mod FinishRows
pub mod CallLeaves
pub mod CallLeavesLaws
pub mod MeshLaws
pub mod FinishLaws
