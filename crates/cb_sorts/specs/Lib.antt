pub mod Source
pub mod Asked
pub mod OverFile
pub mod Called
pub mod Accepted
pub mod Commits
