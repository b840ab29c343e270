pub mod Levels
pub mod Nodes
pub mod Steps
pub mod Whole
pub mod Slots
pub mod Renamed
pub mod Names
