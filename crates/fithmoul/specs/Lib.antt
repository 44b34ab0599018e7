pub mod Results
pub mod Exported
pub mod Laws
pub mod LoadLaws
