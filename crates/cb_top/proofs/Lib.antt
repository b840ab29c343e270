pub mod Outcomes
pub mod Ending
pub mod Few
