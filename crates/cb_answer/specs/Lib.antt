pub mod Items
pub mod Lines
pub mod Writing
pub mod Answering
pub mod Answered
