pub mod Refusals
pub mod File
