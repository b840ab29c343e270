pub mod Told
pub mod Items
pub mod Telling
