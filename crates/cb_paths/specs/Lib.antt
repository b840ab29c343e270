pub mod Products
pub mod Walk
pub mod Gives
pub mod Counted
