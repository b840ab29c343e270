pub mod TokenList
pub mod Machine
pub mod Answers
pub mod Steps
pub mod Pieces
pub mod Lines
pub mod Readings
