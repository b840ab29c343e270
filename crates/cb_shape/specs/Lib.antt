pub mod Shapes
pub mod Terms
pub mod Tokens
pub mod Walk
pub mod Laws
pub mod Text
