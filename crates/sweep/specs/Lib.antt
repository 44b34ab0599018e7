-- `Step` has the definitions of one step on a mesh and `StepCall` those of the call `step`; `Run` those of the call `run`, `SeedTriangle` a seed, and `Demand3`
-- what a finished run means. The others have the laws: `StepMesh` what a step keeps, `SoundRing` that fate 4 tells the truth,
-- `StepCallLaws` what a call of `step` comes to, `SweepLaws` what all steps keep, `RunAnswers` the words of a run's answers, `RunLaws` demand 3 for every seed, centre and list of points.
pub mod Stepped
pub mod Step
pub mod StepCall
pub mod StepMesh
pub mod SoundRing
pub mod StepCallLaws
pub mod Run
pub mod SeedTriangle
pub mod SweepLaws
pub mod Demand3
