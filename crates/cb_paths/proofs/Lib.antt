pub mod Built
pub mod Walking
pub mod Order
pub mod Counting
