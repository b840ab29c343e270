pub mod Steps
pub mod Values
pub mod Chains
pub mod Facts
pub mod Rewriting
pub mod Adding
pub mod Back
pub mod Binding
pub mod Search
mod Inside
