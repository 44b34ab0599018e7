-- `StepRows` has what the functions ask of rows and leave, `StepRing` what a step makes of the ring, `StepOnce` what the parts of the call
-- come to.
pub mod StepRing
pub mod StepRows
pub mod StepOnce
