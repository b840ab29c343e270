pub mod Wiring
pub mod Parts
pub mod Places
pub mod Netlists
pub mod Walking
