pub mod Plain
pub mod Accepted
pub mod Steps
pub mod Telling
pub mod Writing
pub mod Outcomes
