pub mod Host
pub mod Fakes
