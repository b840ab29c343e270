pub mod Waits
pub mod Moments
