pub mod Reaches
pub mod Rows
pub mod Marking
pub mod Ones
