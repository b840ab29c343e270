pub mod Counts
pub mod Steps
pub mod Exprs
pub mod Different
pub mod Ports
pub mod Parts
