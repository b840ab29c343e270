pub mod Parked
pub mod Ready
pub mod Asking
pub mod Laws
