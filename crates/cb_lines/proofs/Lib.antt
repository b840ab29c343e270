pub mod Numbers
pub mod Inputs
pub mod Writing
pub mod Outcomes
