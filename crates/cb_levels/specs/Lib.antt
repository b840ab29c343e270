pub mod Meeting
pub mod Inverse
