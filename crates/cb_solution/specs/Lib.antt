pub mod Solution
pub mod Differ
pub mod Parts
