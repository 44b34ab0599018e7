-- `HullCenter` has what the contracts of `hull_center_rows` cite. `Exact` says that no step of the centre rounds, and that
-- the Rust's steps give the same; `Laws` what a mesh that is ready gives to the sweep.
pub mod HullCenter
pub mod Exact
pub mod Laws
