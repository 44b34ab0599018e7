pub mod SweepLoop
