pub mod Accepting
pub mod Once
