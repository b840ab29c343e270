pub mod Same
pub mod Shown
