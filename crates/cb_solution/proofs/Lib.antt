pub mod Steps
pub mod Solved
pub mod Loops
pub mod Lower
pub mod Stages
mod Places
mod Eliminated
