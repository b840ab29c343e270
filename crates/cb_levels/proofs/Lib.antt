pub mod Marks
pub mod Inverses
