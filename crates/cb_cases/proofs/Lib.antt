pub mod Moments
mod Constants
