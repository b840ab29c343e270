pub mod Joins
pub mod Cycle
