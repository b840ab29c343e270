pub mod Walk
pub mod Signs
pub mod InPlaces
