pub mod Ends
pub mod Joins
pub mod Ways
pub mod Roots
pub mod Follow
pub mod Shorten
