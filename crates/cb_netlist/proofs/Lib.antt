pub mod Parts
pub mod Netlists
pub mod Steps
pub mod Wholes
pub mod Frames
