pub mod Counts
pub mod Deciding
pub mod Outcomes
pub mod Ports
pub mod Sized
