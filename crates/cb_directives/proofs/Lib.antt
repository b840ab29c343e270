pub mod Reading
pub mod Steps
pub mod Arguments
pub mod Counted
pub mod Turned
