pub mod Front
pub mod Levels
pub mod Steps
