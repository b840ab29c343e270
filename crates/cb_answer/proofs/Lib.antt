pub mod Leaves
pub mod Starts
pub mod Numbered
mod Standing
mod Forms
mod Whole
pub mod Points
pub mod Shaped
pub mod Named
pub mod Lines
mod Spread
mod Within
mod Found
mod Gens
mod Answered
pub mod Items
mod Called
mod Ordered
