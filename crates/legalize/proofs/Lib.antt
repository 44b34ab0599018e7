pub mod Pushing
pub mod Popping
pub mod Turning
pub mod Looping
pub mod Starting
