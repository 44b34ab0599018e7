pub mod Fates
pub mod RunAnswers
pub mod RunFates
pub mod RunLaws
pub mod SoundRingLaws
pub mod StepCallLawsFacts
pub mod StepMeshLaws
pub mod SweepLawsFacts
