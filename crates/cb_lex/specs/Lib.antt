pub mod View
pub mod Laws
pub mod Faults
pub mod Digits
pub mod Scans
pub mod Place
