pub mod Scans
pub mod Back
