pub mod Views
pub mod Back
pub mod Slots
pub mod Equations
pub mod Falling
pub mod Levels
pub mod Moved
pub mod Changes
pub mod Inside
pub mod General
pub mod Known
pub mod Rooms
pub mod Expressions
pub mod Laws
pub mod Sizes
mod Parting
pub mod Together
mod Added
mod Covering
mod Kept
mod Noting
mod Live
