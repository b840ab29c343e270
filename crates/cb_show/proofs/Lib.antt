pub mod Fronts
pub mod Renamed
pub mod Pieces
pub mod Counts
pub mod Shown
