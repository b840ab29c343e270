pub mod Nodes
pub mod Verdict
pub mod Order
pub mod Least
pub mod Wanted
pub mod Places
pub mod Modules
