-- `StepsRows` has what the steps ask of rows and leave, `StepsReady` what the checks of a run give them.
pub mod StepsRows
pub mod StepsReady
