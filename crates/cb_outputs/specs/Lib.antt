pub mod Exists
pub mod Ones
