pub mod Lists
pub mod Shifts
pub mod Bridges
pub mod Additions
pub mod Instances
