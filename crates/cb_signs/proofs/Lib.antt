pub mod Adding
pub mod Distinct
