-- What the code of the checks shows, from what it has read and tested.
pub mod Search
pub mod Faces
pub mod Call
