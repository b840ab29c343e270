pub mod Runs
pub mod Stacks
pub mod Adds
pub mod Chosen
pub mod Clauses
pub mod Resolving
pub mod Loops
pub mod Turns
mod Asking
pub mod Answering
mod Going
pub mod Starts
