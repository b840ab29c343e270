pub mod Terms
pub mod Reads
pub mod Modules
pub mod Rest
pub mod Specs
pub mod Ports
