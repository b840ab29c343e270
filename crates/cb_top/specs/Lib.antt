pub mod Built
pub mod Top
pub mod Tasks
