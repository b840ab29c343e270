pub mod Marks
pub mod Search
pub mod Places
pub mod Walk
pub mod Marking
pub mod Kept
